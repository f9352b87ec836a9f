use Rattle.erm_block.proofs.OneLogList.{same_log_list}
use Rattle.erm_block.proofs.laws.one_log_list.Goals as goal

pub returns : goal.returns
returns g c = same_log_list c.stored_words_tell_the_row.ensures.short c.stored_words_tell_the_row.ensures.whole g.R.RowLaw.law.meets
