use Rattle.erm_checkpoint.proofs.Taken.{flushed_holds}
use Rattle.erm_checkpoint.proofs.laws.flushed_logs_are_held.Goals as goal

pub returns : goal.returns
returns g c = flushed_holds c.stored_words_tell_the_row.ensures.short g.L.RowLaw.law.meets c.respects_rows.ensures.meets
