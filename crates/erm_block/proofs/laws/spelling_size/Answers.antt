use Rattle.erm_block.proofs.OneSpelling.{length-spelling}
use Rattle.erm_block.proofs.Reading.{in_range}
use Rattle.erm_block.proofs.laws.spelling_size.Goals as goal

pub returns-clause-size : goal.returns-clause-size
returns-clause-size c = length-spelling c.stored_words_tell_the_row.ensures.short

pub returns-clause-most : goal.returns-clause-most
returns-clause-most c = λ block at run_before is. (in_range c.stored_words_tell_the_row.ensures.short block.kind block run_before is.rules).size
