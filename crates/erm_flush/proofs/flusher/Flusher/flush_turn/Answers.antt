use Rattle.std.proofs.Common.{refl, rules}
use Rattle.erm_outside.specs.Disk.{Tells}
use Rattle.erm_flush.specs.Turns.{WritesFrom}
use Rattle.erm_flush.specs.declared.world_log.WorldLog.{WorldLog}
use Rattle.erm_flush.proofs.Exact.{exact_writes}
use Rattle.erm_flush.proofs.flusher.Flusher.flush_turn.Goals as goal

pub returns-clause-any_moment : goal.returns-clause-any_moment
returns-clause-any_moment g c = λ fine.
    let written : Tells (WritesFrom g.W.LogWorld.rows_law.meets (g.W.LogWorld.log c.args.world.now).flushed (g.W.LogWorld.log c.turn_over.new.world.world.now)) (g.D.Disk.told c.args.disk.now) (g.D.Disk.told c.turn_over.new.disk) =
    exact_writes (λ (x : WorldLog g.row.W.Denot). g.W.LogWorld.log x.world.now) g.W.LogWorld.rows_law.meets c.stored_words_tell_the_row.ensures.short c.stored_words_tell_the_row.ensures.whole
    _ c.turn_over.new.world (g.D.Disk.told c.args.disk.now) (g.D.Disk.told c.turn_over.new.disk) c.turn_over.result
    (g.met.W.LogWorld.is_log c.args.world.now c.requires.stands) (c.requires.ready fine) (c.turn_over.ensures.known (g.W.LogWorld.log c.args.world.now) refl c.requires.ready)
    in search (rules, written)
