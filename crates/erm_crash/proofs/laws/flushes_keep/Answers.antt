use Rattle.erm_crash.proofs.Flushed.{flush_keeps}
use Rattle.erm_crash.proofs.laws.flushes_keep.Goals as goal

pub returns : goal.returns
returns g c = flush_keeps c.stored_words_tell_the_row.ensures.short g.L.RowLaw.law.meets c.respects_rows.ensures.meets
