-- Tasks: which call a seat may be in the middle of at each place.
use Rattle.std.specs.Prelude.{◌≡◌, ◌<◌, ◌≤◌, length}
use Rattle.erm_machine.specs.declared.attempt.Attempt.{Attempt}
use Rattle.erm_machine.specs.declared.attempt.Decision.TheVariants.{Commit}
use Rattle.erm_machine.specs.declared.part.Part.{Part}
use Rattle.erm_machine.specs.declared.place.Place.{Place}
use Rattle.erm_machine.specs.declared.place.Place.TheVariants.{Active, Sealed, Decided}
use Rattle.erm_machine.specs.declared.task.Task.{Task}
use Rattle.erm_machine.specs.declared.task.Task.TheVariants as task

-- in the middle of a call of an active transaction: its end has raised no reader stamp and installs nothing
abbrev pub InActive : Task → Type 0
InActive (task.Settles reads writes) = ⊥
InActive (task.ReadOwned read owner) = ⊥
InActive (task.ReadClear read) = ⊥
InActive (task.ReadOvertaken read overwriter) = ⊥
InActive (task.ReadersLeft write bits) = ⊥
InActive (task.WriteClear write) = ⊥
InActive (task.WriteMade write) = ⊥
InActive (task.Fills words) = ⊥
InActive (task.Ends raised ended step cleared) = (raised ≡ 0) × (step ≡ 0)
InActive _ = Unit {0}

-- in the middle of a settle
abbrev pub InSettle : Task → Type 0
InSettle task.Rest = Unit {0}
InSettle (task.Settles reads writes) = Unit {0}
InSettle (task.ReadOwned read owner) = Unit {0}
InSettle (task.ReadClear read) = Unit {0}
InSettle (task.ReadOvertaken read overwriter) = Unit {0}
InSettle (task.ReadersLeft write bits) = Unit {0}
InSettle (task.WriteClear write) = Unit {0}
InSettle (task.WriteMade write) = Unit {0}
InSettle (task.Fills words) = Unit {0}
InSettle _ = ⊥

-- in the middle of the end of a decided transaction: only a committed one installs, in eight steps before the last
abbrev pub InEnd : Attempt → Task → Type 0
InEnd t (task.Ends raised ended step cleared) = (step ≤ 8) × (0 < step → (t.decision ≡ Commit) × (ended < length t.writes))
InEnd t _ = ⊥

-- the call in progress is one of this place; elsewhere none is in progress
abbrev pub TaskFits : Place → Attempt → Task → Type 0
TaskFits (Active tail) t u = InActive u
TaskFits (Sealed tail stamp) t u = InSettle u
TaskFits (Decided tail stamp) t u = InEnd t u
TaskFits _ t u = u ≡ task.Rest

-- a seat's call in progress
pub record OwnTask (x : Part) : Type 0 where
  pub fits : TaskFits x.place x.current x.task
