-- States that take events.
use Rattle.erm_machine.specs.Sound.{Sound}
use Rattle.erm_core.specs.declared.state.State.{State}
use Rattle.erm_core.specs.Cores.{core_of}

-- the state is sound
pub record IsReady (s : State) : Type 0 where
  pub sound : Sound (core_of s)
