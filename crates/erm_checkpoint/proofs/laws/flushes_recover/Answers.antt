use Rattle.erm_checkpoint.proofs.Flushed.{flush_moments}
use Rattle.erm_checkpoint.proofs.laws.flushes_recover.Goals as goal

pub returns : goal.returns
returns g c = flush_moments c.stored_words_tell_the_row.ensures.short g.L.RowLaw.law.meets c.respects_rows.ensures.meets
