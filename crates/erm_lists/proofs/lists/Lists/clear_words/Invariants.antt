use Rattle.std.proofs.Common.{◌≡◌, ◌≤◌}
use Rattle.erm_sound.specs.Kept.{SoundUnder}
use Rattle.erm_core.specs.Cores.{core_of}
use Rattle.erm_core_turns.proofs.Clears.{Clears}
use Rattle.erm_lists.proofs.lists.Lists.clear_words.Given as goal

abbrev pub invariant-loop-at : goal.invariant-loop-at
invariant-loop-at g l =
    SoundUnder g.L.RowLaw.law (core_of l.self.state)
    × Clears l.from l.end l.at (core_of l.fn.self.state) (core_of l.self.state)
    × (l.self.sessions ≡ l.fn.self.sessions)
    × (l.from ≤ l.at)
    × (l.at ≤ l.end)
