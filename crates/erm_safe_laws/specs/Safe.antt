-- Safe snapshots: readers at a stamp that have a place in the serial order without being tracked (Ports and Grittner, 2012).
use Rattle.std.specs.Prelude.{◌≡◌, ℕ, ◌<◌, ◌≤◌, List, [], ◌∷◌, ◌++◌}
use Rattle.erm_model.specs.declared.history.TransactionRecord.{TransactionRecord}
use Rattle.erm_model.specs.declared.operation.Op.{Op}
use Rattle.erm_model.specs.declared.operation.Op.TheVariants.{Get, Put, Del, Next, Scan, Save, Back}
use Rattle.erm_model.specs.Committed.{Committed, HasSnapshotReplies}
use Rattle.erm_model.specs.Database.{Database}
use Rattle.erm_model.specs.History.{HasNewestRows, History, IsNewestBelow, below, rank_of, rows_after}
use Rattle.erm_model.specs.Member.{◌∈◌}
use Rattle.erm_model.specs.Rows.{Rows}
use Rattle.erm_model.specs.Run.{Step}
use Rattle.erm_model.specs.SerialOrder.{IsSerialOrder}

-- each transaction that committed at or above the stamp comes behind a reader there, whenever it began
abbrev pub AreLate : History → ℕ → Type 0
AreLate h b = (t : TransactionRecord) → t ∈ h → b ≤ t.stamp → b ≤ t.succ

-- A place in a serial order at which a reader finds the snapshot at a stamp: before it stand just the transactions that committed
-- below the stamp, in their own serial order, and each object has its newest row below it.
pub record StandsBetween (h : History) (opening : Rows) (order : History) (b : ℕ) : Type 0 where
  pub front : History
  pub rest : History
  pub whole : order ≡ front ++ rest
  pub before : (t : TransactionRecord) → t ∈ front → (t.stamp < b) × (t.succ < b)
  pub behind : (t : TransactionRecord) → t ∈ rest → (b ≤ t.stamp) × (b ≤ t.succ)
  pub serial : IsSerialOrder rank_of (below b h) front
  pub newest : HasNewestRows h opening b (rows_after front opening)
  pub finds : (oid stamp : ℕ) (row : List ℕ) → IsNewestBelow h opening oid b stamp row → rows_after front opening oid ≡ row

-- the operation looks at the map
abbrev pub IsReading : Op → Type 0
IsReading (Get table key) = Unit {0}
IsReading (Put table key value) = ⊥
IsReading (Del table key) = ⊥
IsReading (Next table from) = Unit {0}
IsReading (Scan table low high) = Unit {0}
IsReading Save = ⊥
IsReading (Back n) = ⊥

-- all of them do
abbrev pub AreReadings : List Step → Type 0
AreReadings [] = Unit {0}
AreReadings (step ∷ steps) = IsReading step.op × AreReadings steps

-- A safe snapshot beside commits: its begin stamp, which is safe, places it in the serial order, with a stamp above those of all commits; it
-- only reads, and each of its replies is that on the state below its begin stamp.
pub record IsSafeSnapshot (commits : List Committed) (opening : Database) (limit : ℕ) (s : Committed) : Type 0 where
  pub placed : s.succ ≡ s.begin
  pub above : limit ≤ s.stamp
  pub safe : (c : Committed) → c ∈ commits → s.begin ≤ c.stamp → s.begin ≤ c.succ
  pub reads : AreReadings s.steps
  pub replies : HasSnapshotReplies commits opening s.begin s.steps

-- commits with stamps below a limit, and successor stamps at most these
pub record AreCommits (commits : List Committed) (limit : ℕ) : Type 0 where
  pub below : (c : Committed) → c ∈ commits → c.stamp < limit
  pub succ : (c : Committed) → c ∈ commits → c.succ ≤ c.stamp
