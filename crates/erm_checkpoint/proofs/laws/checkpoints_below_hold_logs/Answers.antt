use Rattle.erm_checkpoint.proofs.Past.{flushed_past, may_save_past, past_here, past_low, saved_past}
use Rattle.erm_checkpoint.proofs.laws.checkpoints_below_hold_logs.Goals as goal

pub returns-clause-here : goal.returns-clause-here
returns-clause-here g c = past_here c.stored_words_tell_the_row.ensures.short g.L.RowLaw.law.meets c.respects_rows.ensures.meets

pub returns-clause-flushed : goal.returns-clause-flushed
returns-clause-flushed g c = flushed_past c.stored_words_tell_the_row.ensures.short g.L.RowLaw.law.meets c.respects_rows.ensures.meets

pub returns-clause-low : goal.returns-clause-low
returns-clause-low g c = past_low c.stored_words_tell_the_row.ensures.short g.L.RowLaw.law.meets c.respects_rows.ensures.meets

pub returns-clause-may : goal.returns-clause-may
returns-clause-may g c = may_save_past c.stored_words_tell_the_row.ensures.short g.L.RowLaw.law.meets c.respects_rows.ensures.meets

pub returns-clause-saved : goal.returns-clause-saved
returns-clause-saved g c = saved_past c.stored_words_tell_the_row.ensures.short g.L.RowLaw.law.meets c.respects_rows.ensures.meets
