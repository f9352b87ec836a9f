-- What the laws of histories say of one history.
use Rattle.std.specs.Prelude.{◌≡◌, ℕ, ◌+◌, ◌<◌, ◌≤◌, sum_by, Some}
use Rattle.std.specs.List.{slice_get}
use Rattle.erm_model.specs.declared.history.TransactionRecord.{TransactionRecord}
use Rattle.erm_model.specs.declared.history.VersionWritten.{VersionWritten}
use Rattle.erm_model.specs.Lawful.{IsLawfulRecord, times_made}
use Rattle.erm_model.specs.Member.{◌∈◌}
use Rattle.erm_model.specs.RowTransaction.{Law}
use Rattle.erm_model.specs.Rows.{Rows}
use Rattle.erm_model.specs.SerialOrder.{ComesBefore}
use Rattle.erm_model.specs.History.{History, Depends, IsSuccessorStamp, IsVersion, rank_of}

-- a transaction of the history comes after each one that it depends on
abbrev pub DependenciesGoForward : History → Type 0
DependenciesGoForward h = (t u : TransactionRecord) → t ∈ h → u ∈ h → Depends t u → ComesBefore (rank_of t) (rank_of u)

-- a transaction stands in this order behind each one that it depends on
abbrev pub StandsAfterItsDependencies : History → Type 0
StandsAfterItsDependencies order = (i j : ℕ) (t u : TransactionRecord) → slice_get order i ≡ Some t → slice_get order j ≡ Some u → Depends t u → i < j

-- the numbers are the successor stamps of the history's transactions
abbrev pub AreSuccessorStamps : History → (TransactionRecord → ℕ) → Type 0
AreSuccessorStamps h succ = (t : TransactionRecord) → t ∈ h → IsSuccessorStamp h succ t

-- the stamps of the history's transactions lie below the bound
abbrev pub AllBelow : ℕ → History → Type 0
AllBelow bound h = (t : TransactionRecord) → t ∈ h → t.stamp < bound

-- how often a history's transactions made an object
abbrev pub made_in_history : History → ℕ → ℕ
made_in_history h x = sum_by (λ t. times_made t.made x) h

-- A history keeps a law of rows: the opening's rows meet it, and reach nothing that is made, once each; each transaction is lawful,
-- and what its claims found are versions.
pub record KeepsLaw (law : Law) (h : History) (opening : Rows) : Type 0 where
  pub meets : law.meets opening
  pub lawful : (t : TransactionRecord) → t ∈ h → IsLawfulRecord law t
  pub bases : (t : TransactionRecord) (w : VersionWritten) → t ∈ h → w ∈ t.writes → IsVersion h opening w.oid w.stamp w.base
  pub new : (x : ℕ) → 0 < made_in_history h x → law.reach opening x + made_in_history h x ≤ 1
