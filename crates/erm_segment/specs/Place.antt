-- Where words of the log lie.
use Rattle.std.specs.Prelude.{ℕ, ◌*◌, ◌/◌, ◌%◌}
use Rattle.erm_outside.specs.declared.disk.File.{File}
use Rattle.erm_outside.specs.declared.disk.File.TheVariants.{Segment}
use Rattle.erm_model.specs.declared.limits.TheConstants.{SEGMENT_WORDS}
use Rattle.erm_segment.specs.declared.TheConstants.{WORD_BYTES}

-- the file of a word of the log, and the byte in it at which the word begins
abbrev pub place_of : ℕ → File × ℕ
place_of word = (Segment (word / SEGMENT_WORDS), WORD_BYTES * (word % SEGMENT_WORDS))
