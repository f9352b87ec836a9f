use Rattle.erm_flush.proofs.Exact.{fits_here}
use Rattle.erm_flush.proofs.world_log.WorldLogLogView.gather.Goals as goal

pub returns-clause-fits : goal.returns-clause-fits
returns-clause-fits g c =
    fits_here c.stored_words_tell_the_row.ensures.short c.stored_words_tell_the_row.ensures.whole g.W.LogWorld.rows_law.meets c.gather.result (g.W.LogWorld.log c.args.self.now.world.now)
    (g.W.LogWorld.log c.gather.new.self) c.gather.new.words c.gather.ensures.gathers (g.met.W.LogWorld.is_log c.gather.new.self c.gather.ensures.stands) c.gather.ensures.room
