use Rattle.erm_checkpoint.proofs.Taken.{may_save, saved_holds}
use Rattle.erm_checkpoint.proofs.laws.checkpoints_hold_logs.Goals as goal

pub returns-clause-may : goal.returns-clause-may
returns-clause-may g c = may_save c.stored_words_tell_the_row.ensures.short g.L.RowLaw.law.meets c.respects_rows.ensures.meets

pub returns-clause-saved : goal.returns-clause-saved
returns-clause-saved g c = saved_holds c.stored_words_tell_the_row.ensures.short g.L.RowLaw.law.meets c.respects_rows.ensures.meets
