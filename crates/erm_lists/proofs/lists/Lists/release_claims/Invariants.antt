use Rattle.std.proofs.Common.{◌≡◌, ◌≤◌}
use Rattle.erm_sound.specs.Kept.{SoundUnder}
use Rattle.erm_core.specs.Cores.{core_of}
use Rattle.erm_core_steps.specs.Steps.{IsEnding, IsUnseen, claims_in, reads_in}
use Rattle.erm_lists.proofs.lists.Lists.release_claims.Given as goal

abbrev pub invariant-loop-place : goal.invariant-loop-place
invariant-loop-place g l =
    SoundUnder g.L.RowLaw.law (core_of l.self.state)
    × IsEnding l.seat (claims_in (core_of l.fn.self.state) l.seat) (reads_in (core_of l.fn.self.state) l.seat) l.place 0 (core_of l.self.state)
    × IsUnseen l.fn.self.sessions l.seat (core_of l.fn.self.state) (core_of l.self.state)
    × (l.self.sessions ≡ l.fn.self.sessions)
    × (l.place-end ≡ claims_in (core_of l.fn.self.state) l.seat)
    × (l.place ≤ l.place-end)
