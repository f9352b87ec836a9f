-- What a load of an entry, a read's way to a head and a claim leave of a pass's view.
use Rattle.std.specs.Prelude.{◌≡◌, ◌≢◌, ℕ, true, false, List, Option, Some, None}
use Rattle.erm_cells.specs.Calls.{DidLose}
use Rattle.erm_machine.specs.declared.part.Part.{Part}
use Rattle.erm_machine.specs.declared.task.Task.{Task}
use Rattle.erm_machine.specs.declared.task.Task.TheVariants as task
use Rattle.erm_machine.specs.declared.version.VersionAt.{VersionAt}
use Rattle.erm_machine.specs.Bounds.{IsOther}
use Rattle.erm_machine.specs.Chains.{IsNamed}
use Rattle.erm_machine.specs.Core.{Core}
use Rattle.erm_machine.specs.Facts.{HoldsBelow}
use Rattle.erm_machine.specs.Life.{noted}
use Rattle.erm_machine.specs.Seat.{with_task, may_start}
use Rattle.erm_machine.specs.Snapshot.{NewerFrom}
use Rattle.erm_machine.specs.Sound.{Sound}
use Rattle.erm_machine.specs.Words.{head_of, owner_of, is_clear}
use Rattle.erm_rule.specs.declared.view.View.{View}
use Rattle.erm_rule.specs.Hands.{IsKnown}
use Rattle.erm_rule.specs.Views.{part_of, with_part, IsView}
use Rattle.erm_seats.specs.Calls.{FindsState}
use Rattle.erm_entries.specs.declared.answer.SeatWait.{SeatWait}
use Rattle.erm_entries.specs.declared.entries.Entry.{Entry}
use Rattle.erm_entries.specs.Spelling.{word_of, entry_of}

-- An object's entry may be loaded there: where a call may start, and where an owner was found clear, if it was that object's.
abbrev pub MayLoad : ℕ → Task → Type 0
MayLoad oid (task.Cleared cleared) = cleared ≡ oid
MayLoad oid t = may_start t ≡ true

-- the object's entry is this word in the state that is known
abbrev pub IsEntry : (w : View) → IsKnown w → ℕ → ℕ → Type 0
IsEntry w known oid entry = (known.core.shared.objects oid).entry ≡ entry

-- An entry was loaded once more, after its owner was found clear: its head is in hand, whoever owns it now.
pub record DidReload (v : View) (who oid entry : ℕ) (w : View) : Type 0 where
  pub version : VersionAt
  pub oid_is : version.oid ≡ oid
  pub cell_is : version.cell ≡ head_of entry
  pub view_is : w ≡ with_part who (with_task (task.Walks version None) (part_of v who)) v
  pub known : IsKnown w
  pub met : IsEntry w known oid entry

-- The versions of the object from this one on down have the one of a seat's snapshot: all newer versions have stamps at or above
-- the begin stamp, and no other seat holds a claim on the object with a stamp below it.
pub record LeadsToSnapshot (c : Core) (who : ℕ) (version : VersionAt) : Type 0 where
  pub named : IsNamed c.shared version
  pub newer : NewerFrom (c.shared.objects version.oid) version.place (c.seats who).current.begin
  pub unclaimed : (q : ℕ) → who ≢ q → HoldsBelow (c.seats q) version.oid (c.seats who).current.begin → ⊥

-- The way to a head: nobody owns the entry, which may then be claimed, and the seat has noted nothing; or the entry was loaded
-- after another seat, which had owned it, was found clear for the begin stamp, which is noted.
abbrev pub IsWay : ℕ → ℕ → Part → Option ℕ → List ℕ → Type 0
IsWay who entry x (Some seen) notes = (seen ≡ entry) × (owner_of entry ≡ 0) × (notes ≡ x.clear)
IsWay who entry x None notes = (owner : ℕ) × IsOther who owner × (notes ≡ noted owner x.current.begin x.clear)

-- the part of a seat that has a head in hand, and these bounds noted
abbrev pub reached_part : VersionAt → Option ℕ → List ℕ → Part → Part
reached_part version head notes x = record x { task = task.Walks version head; clear = notes }

-- The head of an object's chain, by this entry, is in hand of a read.
pub record DidReach (v : View) (who oid entry : ℕ) (w : View) : Type 0 where
  pub version : VersionAt
  pub head : Option ℕ
  pub notes : List ℕ
  pub oid_is : version.oid ≡ oid
  pub cell_is : version.cell ≡ head_of entry
  pub way : IsWay who entry (part_of v who) head notes
  pub view_is : w ≡ with_part who (reached_part version head notes (part_of v who)) v
  pub known : IsKnown w
  pub met : IsEntry w known oid entry
  pub leads : LeadsToSnapshot known.core who version

-- in some sound state with the view's parts the object's entry was this word
pub record FindsEntry (v : View) (oid entry : ℕ) : Type 0 where
  pub core : Core
  pub sound : Sound core
  pub is_view : IsView v core
  pub met : (core.shared.objects oid).entry ≡ entry

-- The entry found has another owner, who isn't clear for the begin stamp: the state word of that seat is told.
pub record DidWait (v : View) (who oid : ℕ) (wait : SeatWait) (w : View) : Type 0 where
  pub entry : ℕ
  pub found : FindsEntry w oid entry
  pub owner_is : owner_of entry ≡ wait.seat
  pub other : IsOther who wait.seat
  pub finds : FindsState w wait.seat wait.seen
  pub unclear : is_clear wait.seen (part_of v who).current.begin ≡ false
  pub view_is : w ≡ with_part who (with_task (task.Owned oid wait.seat) (part_of v who)) v
  pub known : IsKnown w

-- an exchange met another entry than the one seen
pub record DidMeet (v : View) (who oid seen : ℕ) (entry : Entry) (w : View) : Type 0 where
  pub spelled : entry_of (word_of entry) ≡ entry
  pub other : word_of entry ≢ seen
  pub loses : DidLose v who oid seen (word_of entry) w
