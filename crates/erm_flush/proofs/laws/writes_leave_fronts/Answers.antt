use Rattle.erm_flush.proofs.Flushes.{fronts}
use Rattle.erm_flush.proofs.laws.writes_leave_fronts.Goals as goal

pub returns : goal.returns
returns g c = fronts c.stored_words_tell_the_row.ensures.short c.stored_words_tell_the_row.ensures.whole g.R.RowLaw.law.meets
