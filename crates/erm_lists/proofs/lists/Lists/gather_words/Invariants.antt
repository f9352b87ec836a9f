use Rattle.std.proofs.Common.{◌≡◌, ◌≤◌, ◌+◌, length, take}
use Rattle.erm_sound.specs.Kept.{SoundUnder}
use Rattle.erm_core.specs.Cores.{core_of}
use Rattle.erm_machine.specs.declared.limits.TheConstants.{RING_WORDS}
use Rattle.erm_core_turns.specs.Turns.{HasGathered, ring_words}
use Rattle.erm_lists.proofs.lists.Lists.gather_words.Given as goal

abbrev pub invariant-loop-count : goal.invariant-loop-count
invariant-loop-count g l =
    SoundUnder g.L.RowLaw.law (core_of l.self.state)
    × HasGathered l.from (l.from + l.count) (core_of l.fn.self.state) (core_of l.self.state)
    × (l.self.sessions ≡ l.fn.self.sessions)
    × (length l.words ≡ RING_WORDS)
    × (take l.count l.words ≡ ring_words (core_of l.fn.self.state).shared l.from l.count)
    × (l.count-end ≡ RING_WORDS)
    × (l.count ≤ l.count-end)
