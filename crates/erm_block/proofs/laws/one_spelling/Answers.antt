use Rattle.erm_block.proofs.OneSpelling.{same_from_spelling}
use Rattle.erm_block.proofs.laws.one_spelling.Goals as goal

pub returns : goal.returns
returns c = same_from_spelling c.stored_words_tell_the_row.ensures.short c.stored_words_tell_the_row.ensures.whole
