use Rattle.std.proofs.Common.{◌≡◌}
use Rattle.erm_sound.specs.Kept.{SoundUnder}
use Rattle.erm_core.specs.Cores.{core_of}
use Rattle.erm_core_steps.specs.Settles.{IsPassing}
use Rattle.erm_core_steps.specs.Steps.{IsUnseen}
use Rattle.erm_core_steps.proofs.Weights.{weight}
use Rattle.erm_lists.proofs.lists.Lists.pass_versions.Given as goal

abbrev pub invariant-loop-kind : goal.invariant-loop-kind
invariant-loop-kind g l =
    SoundUnder g.L.RowLaw.law (core_of l.self.state)
    × IsPassing (core_of l.self.state).shared ((core_of l.self.state).seats l.seat)
    × IsUnseen l.fn.self.sessions l.seat (core_of l.fn.self.state) (core_of l.self.state)
    × (l.self.sessions ≡ l.fn.self.sessions)
    × (((core_of l.self.state).seats l.seat).current.size ≡ ((core_of l.fn.self.state).seats l.seat).current.size)

abbrev pub decreases-loop-kind : goal.decreases-loop-kind
decreases-loop-kind g l = weight ((core_of l.self.state).seats l.seat)
