use Rattle.std.proofs.Common.{◌≡◌}
use Rattle.erm_core.specs.Cores.{core_of}
use Rattle.erm_sound.specs.Kept.{SoundUnder}
use Rattle.erm_core_steps.proofs.Deciding.{Filling}
use Rattle.erm_lists.proofs.lists.Lists.store_words.Given as goal

abbrev pub invariant-loop-k : goal.invariant-loop-k
invariant-loop-k g l =
    SoundUnder g.L.RowLaw.law (core_of l.self.state)
    × Filling l.fn.self.sessions l.seat l.behind (core_of l.fn.self.state) (core_of l.self.state) l.k
    × (l.self.sessions ≡ l.fn.self.sessions)
