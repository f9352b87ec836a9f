use Rattle.std.proofs.Common.{◌≡◌, take}
use Rattle.erm_machine.specs.Sound.{Sound}
use Rattle.erm_machine.specs.Step.{run_from}
use Rattle.erm_core.specs.Cores.{core_of}
use Rattle.erm_core.proofs.state.State.run.Given as goal

abbrev pub invariant-loop-event : goal.invariant-loop-event
invariant-loop-event l =
    (core_of l.self ≡ run_from (core_of l.fn.self) (take l.event-index l.events)) × Sound (core_of l.self)
