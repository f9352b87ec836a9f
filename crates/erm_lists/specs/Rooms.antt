-- What a call of a session stands on in the state that runs: room for its steps, and the window of its transaction.
use Rattle.std.specs.Prelude.{◌≡◌, ℕ, None}
use Rattle.erm_machine.specs.declared.task.Task.TheVariants as task
use Rattle.erm_machine.specs.declared.version.VersionAt.{VersionAt}
use Rattle.erm_core.specs.declared.need.Need.{Need}
use Rattle.erm_core.specs.declared.state.State.{State}
use Rattle.erm_core.specs.Cores.{core_of}
use Rattle.erm_core.specs.Rooms.{HasCallRoom, HasSwapRoom}
use Rattle.erm_core_steps.specs.Reads.{closed_window}

-- room that was made for a call of the seat lasts
abbrev pub KeepsRoom : State → State → ℕ → Type 0
KeepsRoom s t seat = (n : Need) → HasCallRoom s seat n → HasCallRoom t seat n

-- the exclusion window of the seat's transaction, as far as it is known, is open
abbrev pub HasOpenWindow : State → ℕ → Type 0
HasOpenWindow s seat = closed_window ((core_of s).seats seat).current ≡ None

-- an entry was just exchanged for an own one, and there is room for the cells that are cut off its object's chain
pub record MayFinish (s : State) (seat : ℕ) : Type 0 where
  pub version : VersionAt
  pub claimed : ((core_of s).seats seat).task ≡ task.Claimed version
  pub room : HasSwapRoom s seat version.oid
