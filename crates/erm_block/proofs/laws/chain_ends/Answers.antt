use Rattle.erm_block.proofs.OneLogList.{IsLogList-from_stop}
use Rattle.erm_block.proofs.laws.chain_ends.Goals as goal

pub returns : goal.returns
returns g c = IsLogList-from_stop c.stored_words_tell_the_row.ensures.short c.stored_words_tell_the_row.ensures.whole g.R.RowLaw.law.meets
