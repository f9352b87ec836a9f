-- What a read's walk asks of a seat's part, and what it leaves of a pass's view.
use Rattle.std.specs.Prelude.{◌≡◌, ℕ, Option}
use Rattle.erm_machine.specs.declared.task.Task.{Task}
use Rattle.erm_machine.specs.declared.task.Task.TheVariants as task
use Rattle.erm_machine.specs.declared.version.VersionAt.{VersionAt}
use Rattle.erm_machine.specs.Seat.{with_task}
use Rattle.erm_machine.specs.Snapshot.{IsNewestAt}
use Rattle.erm_rule.specs.declared.view.View.{View}
use Rattle.erm_rule.specs.Hands.{IsKnown}
use Rattle.erm_rule.specs.Views.{part_of, with_part}
use Rattle.erm_readers.specs.Calls.{hand_of}

-- a version in this cell is in hand, whose stamp is to be loaded
abbrev pub IsWalking : Task → ℕ → Type 0
IsWalking (task.Walks version head) cell = version.cell ≡ cell
IsWalking t cell = ⊥

-- A version of the object was found, in this cell and of this stamp: in some sound state with the parts of the view after it is the
-- newest one below the begin stamp.
pub record DidReach (v : View) (who cell stamp : ℕ) (w : View) : Type 0 where
  pub version : VersionAt
  pub head : Option ℕ
  pub oid_is : version.oid ≡ (hand_of v who).oid
  pub cell_is : version.cell ≡ cell
  pub view_is : w ≡ with_part who (with_task (task.Found version stamp head) (part_of v who)) v
  pub known : IsKnown w
  pub newest : IsNewestAt (known.core.shared.objects version.oid) version.place (part_of v who).current.begin stamp
