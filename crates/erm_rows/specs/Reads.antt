-- What a read leaves of a pass's view, and why it is refused.
use Rattle.std.specs.Prelude.{◌≡◌, ◌⊎◌, ℕ, ◌<◌, ◌≤◌, List, [], ◌∷◌, ◌++◌, length}
use Rattle.erm_model.specs.declared.history.TransactionRecord.{TransactionRecord}
use Rattle.erm_model.specs.declared.limits.TheConstants.{READ_LIMIT}
use Rattle.erm_model.specs.declared.row_stop.RowStop.{RowStop}
use Rattle.erm_model.specs.declared.row_stop.RowStop.TheVariants as stop
use Rattle.erm_model.specs.History.{OverwritesFrom, OverwritesReadOf, ReadsFrom}
use Rattle.erm_model.specs.Member.{◌∈◌}
use Rattle.erm_machine.specs.declared.attempt.Read.{Read}
use Rattle.erm_machine.specs.declared.part.Part.{Part}
use Rattle.erm_machine.specs.declared.task.Task.TheVariants as task
use Rattle.erm_machine.specs.declared.version.Cell.{Cell}
use Rattle.erm_machine.specs.Bounds.{IsOther}
use Rattle.erm_machine.specs.Core.{Core}
use Rattle.erm_machine.specs.Decided.{counted, history_of, record_of}
use Rattle.erm_machine.specs.Life.{noted}
use Rattle.erm_machine.specs.Seat.{with_pred}
use Rattle.erm_machine.specs.Snapshot.{ReadFits}
use Rattle.erm_rule.specs.declared.view.Book.{Book}
use Rattle.erm_rule.specs.declared.view.View.{View}
use Rattle.erm_rule.specs.Books.{WasState}
use Rattle.erm_rule.specs.Hands.{IsKnown}
use Rattle.erm_rule.specs.Views.{part_of, with_part}
use Rattle.erm_entries.specs.Calls.{DidWait}
use Rattle.erm_readers.specs.Calls.{rated, words_of}

-- the part of a seat that has read a version with these words, and has these bounds noted: the version counts as read, its stamp
-- counts for the predecessor stamp and its overwriter, if it has one, for the successor stamp
abbrev pub read_part : Read → Cell → List ℕ → Part → Part
read_part r words notes x = record x {
  task = task.Rated r.version;
  clear = notes;
  current = rated words (record (with_pred r.stamp x.current) { reads = x.current.reads ++ r ∷ [] });
}

-- what a read has noted: nothing, or that a seat which owned the entry was clear for the begin stamp
abbrev pub IsNotedBy : ℕ → Part → List ℕ → Type 0
IsNotedBy who x notes = (notes ≡ x.clear) ⊎ ((owner : ℕ) × IsOther who owner × (notes ≡ noted owner x.current.begin x.clear))

-- A version of the object was read, whose row is the answer: in the state that is known it is the newest one below the begin stamp,
-- and has that row. The seat's part is the old one with one more read, with the running numbers that follow from it, and with the
-- begin stamp noted of one other seat at most.
pub record DidRead (v : View) (who oid : ℕ) (row : List ℕ) (w : View) : Type 0 where
  pub read : Read
  pub oid_is : read.version.oid ≡ oid
  pub row_is : read.row ≡ row
  pub known : IsKnown w
  pub fits : ReadFits known.core.shared (part_of v who).current.begin read
  pub notes : List ℕ
  pub noted_by : IsNotedBy who (part_of v who) notes
  pub view_is : w ≡ with_part who (read_part read (words_of known.core read.version) notes (part_of v who)) v

-- A successor stamp is that of a committed transaction, which has overwritten a version that the seat's transaction has read.
abbrev pub IsOfOverwriter : Core → ℕ → ℕ → Type 0
IsOfOverwriter c who succ =
    (u : TransactionRecord) × (u ∈ history_of c.seats) × OverwritesReadOf u (record_of who (c.seats who).current) × (succ ≡ u.succ)

-- A predecessor stamp is the stamp of a committed transaction, which has made a version that the seat's transaction has read or
-- overwrites, or has read one that it overwrites. Claims without a cell don't count.
abbrev pub IsOfPredecessor : Core → ℕ → ℕ → Type 0
IsOfPredecessor c who pred =
    (u : TransactionRecord) × (u ∈ history_of c.seats) × (pred ≡ u.stamp)
    × (ReadsFrom (record_of who (counted (c.seats who).current)) u ⊎ OverwritesFrom (record_of who (counted (c.seats who).current)) u
    ⊎ OverwritesReadOf (record_of who (counted (c.seats who).current)) u)

-- The exclusion window known so far is closed: its ends are the running numbers, and both are of committed transactions.
pub record IsClosed (c : Core) (who succ pred : ℕ) : Type 0 where
  pub positive : 0 < succ
  pub closed : succ ≤ pred
  pub succ_is : (c.seats who).current.succ ≡ succ
  pub pred_is : (c.seats who).current.pred ≡ pred
  pub overwriter : IsOfOverwriter c who succ
  pub predecessor : IsOfPredecessor c who pred

-- a version was read, and then the exclusion window known so far was closed
pub record DidExclude (v : View) (who oid succ pred : ℕ) (w : View) : Type 0 where
  pub row : List ℕ
  pub read : DidRead v who oid row w
  pub window : IsClosed read.known.core who succ pred

-- as many versions are read as may be, and nothing is changed
abbrev pub IsFull : View → ℕ → View → Type 0
IsFull v who w = (length (part_of v who).current.reads ≡ READ_LIMIT) × (w ≡ v)

-- Why a read is refused: an owner isn't clear for the begin stamp, the reads are full, or the window is closed. There is no other
-- cause.
abbrev pub DidNotRead : View → ℕ → ℕ → RowStop → View → Type 0
DidNotRead v who oid (stop.NotYet seat seen) w = DidWait v who oid (record { seat = seat; seen = seen }) w
DidNotRead v who oid stop.ReadsFull w = IsFull v who w
DidNotRead v who oid (stop.Excluded succ pred) w = DidExclude v who oid succ pred w
DidNotRead v who oid _ w = ⊥

-- Where an owner isn't clear: between the book before the read and the one after it, that seat's state word was the one told.
abbrev pub WasOwnerMet : Book → RowStop → Book → Type 0
WasOwnerMet b (stop.NotYet seat seen) e = WasState b seat seen e
WasOwnerMet b _ e = Unit {0}
