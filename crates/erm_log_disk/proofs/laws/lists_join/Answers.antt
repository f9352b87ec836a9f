use Rattle.erm_log_disk.proofs.Chains.{lists-joined}
use Rattle.erm_log_disk.proofs.laws.lists_join.Goals as goal

pub returns : goal.returns
returns g c = lists-joined c.stored_words_tell_the_row.ensures.short c.stored_words_tell_the_row.ensures.whole g.R.RowLaw.law.meets
