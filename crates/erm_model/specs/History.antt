-- Histories of committed transactions over versions of objects: the dependency graph, the stamps of the Serial Safety
-- Net, snapshots, and the rows that a list of transactions leaves.
use Rattle.std.specs.Prelude.{◌≡◌, ◌≢◌, ℕ, ◌<◌, ◌≤◌, ◌⊎◌, false, List, [], ◌∷◌, Some}
use Rattle.std.specs.List.{slice_get}
use Rattle.erm_model.specs.declared.history.VersionRead.{VersionRead}
use Rattle.erm_model.specs.declared.history.VersionWritten.{VersionWritten}
use Rattle.erm_model.specs.declared.history.TransactionRecord.{TransactionRecord}
use Rattle.erm_model.specs.Member.{◌∈◌}
use Rattle.erm_model.specs.Rows.{Rows, set_row}
use Rattle.erm_model.specs.SerialOrder.{Rank, StampsDiffer, below_by}

-- the committed transactions of one opening; the rows found at opening are versions of stamp 0
abbrev pub History : Type 0
History = List TransactionRecord

-- T made a version of this object
abbrev pub Makes : TransactionRecord → ℕ → Type 0
Makes t oid = (w : VersionWritten) × (w ∈ t.writes) × (w.oid ≡ oid)

-- T overwrote the version of this object that has this stamp
abbrev pub Overwrites : TransactionRecord → ℕ → ℕ → Type 0
Overwrites t oid stamp = (w : VersionWritten) × (w ∈ t.writes) × (w.oid ≡ oid) × (w.stamp ≡ stamp)

-- write-read: U read a version that T made
abbrev pub ReadsFrom : TransactionRecord → TransactionRecord → Type 0
ReadsFrom u t = (r : VersionRead) × (r ∈ u.reads) × (r.stamp ≡ t.stamp) × Makes t r.oid

-- write-write: U overwrote a version that T made
abbrev pub OverwritesFrom : TransactionRecord → TransactionRecord → Type 0
OverwritesFrom u t = (w : VersionWritten) × (w ∈ u.writes) × (w.stamp ≡ t.stamp) × Makes t w.oid

-- read-write, the anti-dependency: U overwrote a version that T read
abbrev pub OverwritesReadOf : TransactionRecord → TransactionRecord → Type 0
OverwritesReadOf u t = (r : VersionRead) × (r ∈ t.reads) × Overwrites u r.oid r.stamp

-- The dependency graph of Bernstein and Adya: U, another transaction than T, depends on T.
-- The two are told apart by their stamps, which differ in a certified history.
abbrev pub Depends : TransactionRecord → TransactionRecord → Type 0
Depends t u = (t.stamp ≢ u.stamp) × (ReadsFrom u t ⊎ OverwritesFrom u t ⊎ OverwritesReadOf u t)

-- U committed with a smaller stamp and overwrote a version that T read: its successor stamp counts for T's
abbrev pub CountsForSucc : History → TransactionRecord → TransactionRecord → Type 0
CountsForSucc h t u = (u ∈ h) × (u.stamp < t.stamp) × OverwritesReadOf u t

-- The successor stamp of T, the low watermark of its exclusion window: the least of its own stamp and of the
-- successor stamps of those that count.
pub record IsSuccessorStamp (h : History) (succ : TransactionRecord → ℕ) (t : TransactionRecord) : Type 0 where
  pub at_most_own : succ t ≤ t.stamp
  pub at_most_each : (u : TransactionRecord) → CountsForSucc h t u → succ t ≤ succ u
  pub attained : (succ t ≡ t.stamp) ⊎ ((u : TransactionRecord) × CountsForSucc h t u × (succ t ≡ succ u))

-- U committed with a smaller stamp and made a version that T read, made a version that T overwrote, or read a version
-- that T overwrote: its stamp counts for T's predecessor stamp
abbrev pub CountsForPred : History → TransactionRecord → TransactionRecord → Type 0
CountsForPred h t u = (u ∈ h) × (u.stamp < t.stamp) × (ReadsFrom t u ⊎ OverwritesFrom t u ⊎ OverwritesReadOf t u)

-- The predecessor stamp of T, the high watermark of its exclusion window: the greatest stamp that counts, or 0.
pub record IsPredecessorStamp (h : History) (pred : ℕ) (t : TransactionRecord) : Type 0 where
  pub at_least_each : (u : TransactionRecord) → CountsForPred h t u → u.stamp ≤ pred
  pub attained : (pred ≡ 0) ⊎ ((u : TransactionRecord) × CountsForPred h t u × (pred ≡ u.stamp))

-- what places a transaction in the serial order
abbrev pub rank_of : TransactionRecord → Rank
rank_of t = record { succ = t.succ; stamp = t.stamp }

-- The Serial Safety Net's certificate: stamps differ, each transaction carries its successor and predecessor stamps,
-- and each exclusion window is open.
pub record IsCertified (h : History) : Type 0 where
  pub differ : StampsDiffer rank_of h
  pub succ : (t : TransactionRecord) → t ∈ h → IsSuccessorStamp h (λ u. u.succ) t
  pub pred : (t : TransactionRecord) → t ∈ h → IsPredecessorStamp h t.pred t
  pub window : (t : TransactionRecord) → t ∈ h → t.pred < t.succ

-- a transaction of the history with this stamp made a version of this object with this row
abbrev pub IsMade : History → ℕ → ℕ → List ℕ → Type 0
IsMade h oid stamp row = (u : TransactionRecord) × (w : VersionWritten) × (u ∈ h) × (u.stamp ≡ stamp) × (w ∈ u.writes) × (w.oid ≡ oid) × (w.row ≡ row)

-- the version of an object that has this stamp has this row: the opening's at stamp 0, else what a transaction made
abbrev pub IsVersion : History → Rows → ℕ → ℕ → List ℕ → Type 0
IsVersion h opening oid stamp row = ((stamp ≡ 0) × (row ≡ opening oid)) ⊎ IsMade h oid stamp row

-- the version of an object with the greatest stamp below a bound has this stamp and this row
pub record IsNewestBelow (h : History) (opening : Rows) (oid bound stamp : ℕ) (row : List ℕ) : Type 0 where
  pub version : IsVersion h opening oid stamp row
  pub below : stamp < bound
  pub newest : (u : TransactionRecord) → u ∈ h → Makes u oid → u.stamp < bound → u.stamp ≤ stamp

-- T overwrote the newest version below its own stamp, which lies below its begin; a row that no write set is that
-- version's
pub record OverwritesNewest (h : History) (opening : Rows) (t : TransactionRecord) (w : VersionWritten) : Type 0 where
  pub row : List ℕ
  pub newest : IsNewestBelow h opening w.oid t.stamp w.stamp row
  pub first : w.stamp < t.begin
  pub kept : w.is_set ≡ false → w.row ≡ row

-- snapshot isolation for one transaction: it read the newest versions below its begin, and overwrote the newest ones,
-- each object once
pub record ReadsSnapshot (h : History) (opening : Rows) (t : TransactionRecord) : Type 0 where
  pub begun : 0 < t.begin
  pub sealed : t.begin ≤ t.stamp
  pub reads : (r : VersionRead) → r ∈ t.reads → IsNewestBelow h opening r.oid t.begin r.stamp r.row
  pub writes : (w : VersionWritten) → w ∈ t.writes → OverwritesNewest h opening t w
  pub once : (i j : ℕ) (v w : VersionWritten) → slice_get t.writes i ≡ Some v → slice_get t.writes j ≡ Some w → v.oid ≡ w.oid → i ≡ j

-- a snapshot history: snapshot isolation as ERMIA gives it (Kim, Wang, Johnson, Pandis, 2016)
abbrev pub IsSnapshot : History → Rows → Type 0
IsSnapshot h opening = (t : TransactionRecord) → t ∈ h → ReadsSnapshot h opening t

-- the history below a stamp
abbrev pub below : ℕ → History → History
below bound h = below_by rank_of bound h

-- the rows after a transaction's writes
abbrev pub after_writes : List VersionWritten → Rows → Rows
after_writes [] rows = rows
after_writes (w ∷ ws) rows = after_writes ws (set_row rows w.oid w.row)

-- the rows after transactions, one after another
abbrev pub rows_after : List TransactionRecord → Rows → Rows
rows_after [] rows = rows
rows_after (t ∷ ts) rows = rows_after ts (after_writes t.writes rows)

-- T finds in an array of rows just the rows that it read, at each object that it wrote the row that it overwrote, and the
-- row that it left where no write set it
pub record FindsItsRows (h : History) (opening rows : Rows) (t : TransactionRecord) : Type 0 where
  pub reads : (r : VersionRead) → r ∈ t.reads → rows r.oid ≡ r.row
  pub writes : (w : VersionWritten) → w ∈ t.writes → IsVersion h opening w.oid w.stamp (rows w.oid)
  pub kept : (w : VersionWritten) → w ∈ t.writes → w.is_set ≡ false → rows w.oid ≡ w.row

-- run one after another, each transaction finds its rows when its turn comes
abbrev pub RunsSerially : History → Rows → Rows → List TransactionRecord → Type 0
RunsSerially h opening rows [] = Unit {0}
RunsSerially h opening rows (t ∷ ts) = FindsItsRows h opening rows t × RunsSerially h opening (after_writes t.writes rows) ts

-- each object has its newest row below a bound
abbrev pub HasNewestRows : History → Rows → ℕ → Rows → Type 0
HasNewestRows h opening bound rows = (oid : ℕ) → (stamp : ℕ) × IsNewestBelow h opening oid bound stamp (rows oid)
