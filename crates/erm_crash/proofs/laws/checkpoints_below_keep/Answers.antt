use Rattle.erm_crash.proofs.Saved.{past_keeps}
use Rattle.erm_crash.proofs.laws.checkpoints_below_keep.Goals as goal

pub returns : goal.returns
returns g c = past_keeps c.stored_words_tell_the_row.ensures.short g.L.RowLaw.law.meets c.respects_rows.ensures.meets
