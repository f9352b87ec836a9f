-- The flush seat's pin in a pass's view: what a call asks of it, and what it leaves.
use Rattle.std.specs.Prelude.{◌≡◌, ℕ, true, List, []}
use Rattle.erm_cells.specs.Calls.{starts_anew}
use Rattle.erm_machine.specs.declared.limits.TheConstants.{FLUSH_SEAT}
use Rattle.erm_machine.specs.declared.part.Part.{Part}
use Rattle.erm_machine.specs.declared.place.Place.TheVariants.{Idle}
use Rattle.erm_machine.specs.declared.task.Task.{Task}
use Rattle.erm_machine.specs.declared.task.Task.TheVariants as task
use Rattle.erm_machine.specs.Core.{blank}
use Rattle.erm_machine.specs.Seat.{is_active}
use Rattle.erm_rule.specs.declared.view.View.{View}
use Rattle.erm_rule.specs.Hands.{IsKnown}
use Rattle.erm_rule.specs.Views.{part_of, with_part}

-- the pass has the flush seat, which has no pin
abbrev pub IsUnpinned : View → Type 0
IsUnpinned v = (part_of v FLUSH_SEAT).place ≡ Idle

-- The pass has the flush seat, which has a pin. It has noted no read and no claim there, and a call may start.
pub record IsPinned (v : View) : Type 0 where
  pub active : is_active (part_of v FLUSH_SEAT).place ≡ true
  pub reads : (part_of v FLUSH_SEAT).current.reads ≡ []
  pub writes : (part_of v FLUSH_SEAT).current.writes ≡ []
  pub starts : starts_anew (part_of v FLUSH_SEAT).task ≡ true

-- the part of a flush seat whose pin has ended
abbrev pub unpinned_part : Part → Part
unpinned_part x = record x { place = Idle; task = task.Rest; current = blank }

-- UNPIN. Nothing is left of the pin.
pub record DidUnpin (v w : View) : Type 0 where
  pub view_is : w ≡ with_part FLUSH_SEAT (unpinned_part (part_of v FLUSH_SEAT)) v
  pub known : IsKnown w

-- the part of a flush seat that has looked for a row as of its pin: how far it has come, and for which bounds it has found seats clear
abbrev pub looked_part : Task → List ℕ → Part → Part
looked_part t notes x = record x { task = t; clear = notes }

-- ROW AT. The pin stays, and the next call may start.
pub record HasLooked (v w : View) : Type 0 where
  pub task : Task
  pub notes : List ℕ
  pub starts : starts_anew task ≡ true
  pub view_is : w ≡ with_part FLUSH_SEAT (looked_part task notes (part_of v FLUSH_SEAT)) v
  pub known : IsKnown w

-- a version is found: its row may be loaded
abbrev pub HasFound : Task → Type 0
HasFound (task.Found version stamp head) = Unit {0}
HasFound t = ⊥
