-- What the slow program computes of one transaction of a history.
use Rattle.std.specs.Prelude.{◌≡◌, ℕ, ◌<◌, Some}
use Rattle.std.specs.List.{slice_get}
use Rattle.erm_model.specs.declared.history.TransactionRecord.{TransactionRecord}
use Rattle.erm_model.specs.History.{History, IsPredecessorStamp}
use Rattle.erm_core_ssn.specs.Laws.{AreSuccessorStamps}

-- the successor stamps of the history give this transaction this number
abbrev pub HasSuccessorStamp : History → TransactionRecord → ℕ → Type 0
HasSuccessorStamp h t n = (succ : TransactionRecord → ℕ) × AreSuccessorStamps h succ × (n ≡ succ t)

-- this transaction carries its successor and predecessor stamps, and its exclusion window is open
pub record HasOpenWindow (h : History) (t : TransactionRecord) : Type 0 where
  pub succ : HasSuccessorStamp h t t.succ
  pub pred : IsPredecessorStamp h t.pred t
  pub window : t.pred < t.succ

-- nobody before this place has the stamp of the transaction there
abbrev pub IsNewStamp : History → ℕ → Type 0
IsNewStamp h place = (k : ℕ) (t u : TransactionRecord) → slice_get h place ≡ Some t → k < place → slice_get h k ≡ Some u → u.stamp ≡ t.stamp → ⊥

-- the transaction at this place, if there is one, has an open window
abbrev pub IsOpenAt : History → ℕ → Type 0
IsOpenAt h place = (t : TransactionRecord) → slice_get h place ≡ Some t → HasOpenWindow h t
