-- The words of the table that the machine's steps meet.
use Rattle.std.specs.Prelude.{Option, Some, None}
use Rattle.erm_machine.specs.Core.{Spot, tail_word, flushed_word, counter_word, begin_word, state_word, back_word, entry_word, version_word, own_word, ring_word, no_word}
use Rattle.erm_layout.specs.declared.word.Word.{Word}
use Rattle.erm_layout.specs.declared.word.Word.TheVariants as word

-- the word of a spot, if it is one: a version's words and those of a claim's own cell are their cell's
abbrev pub word_of_spot : Spot → Option Word
word_of_spot tail_word = Some word.Tail
word_of_spot flushed_word = Some word.Flushed
word_of_spot (counter_word counter) = Some (word.Counter counter)
word_of_spot (begin_word seat) = Some (word.Begin seat)
word_of_spot (state_word seat) = Some (word.State seat)
word_of_spot (back_word seat) = Some (word.Back seat)
word_of_spot (entry_word oid) = Some (word.Entry oid)
word_of_spot (version_word v w) = Some (word.Cell v.cell w)
word_of_spot (own_word seat claim cell w) = Some (word.Cell cell w)
word_of_spot (ring_word at) = Some (word.Ring at)
word_of_spot no_word = None
