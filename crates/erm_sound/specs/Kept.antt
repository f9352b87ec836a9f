-- Kept: the sound state whose callers keep a law of rows and the spelling of blocks.
use Rattle.std.specs.Prelude.{ℕ}
use Rattle.erm_model.specs.RowTransaction.{Law}
use Rattle.erm_machine.specs.declared.event.Kind.{Kind}
use Rattle.erm_machine.specs.Core.{Core}
use Rattle.erm_machine.specs.Lawful.{DrawsLawfully, Lawful}
use Rattle.erm_machine.specs.Sound.{Sound}
use Rattle.erm_core_blocks.specs.Spelled.{AreSpelled, DecidesSpelled}
use Rattle.erm_core_ring.specs.Begins.{BeginAtEnds}

-- The sound state whose rows keep a law, whose decided blocks are the spellings of their transactions, and whose transactions in
-- progress and pins begin where ranges of the log end.
pub record SoundUnder (law : Law) (c : Core) : Type 0 where
  pub sound : Sound c
  pub lawful : Lawful law c.shared c.seats
  pub spelled : AreSpelled c
  pub begins : BeginAtEnds c

-- What a step's caller promises: it draws a range for a lawful transaction alone, and decides a spelled one alone. Other steps
-- than these two keep it.
pub record Keeps (law : Law) (c : Core) (seat : ℕ) (k : Kind) : Type 0 where
  pub draws : DrawsLawfully law c seat k
  pub decides : DecidesSpelled c seat k
