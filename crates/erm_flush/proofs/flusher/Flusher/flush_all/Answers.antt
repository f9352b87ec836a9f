use Rattle.std.proofs.Common.{◌∙◌, refl, sym, ap}
use Rattle.erm_world.specs.Log.{Log}
use Rattle.erm_flush.proofs.Progress.{goes_further, goes_nowhere, stop_did, stop_goes_on, told_start, told_stop, told_turn}
use Rattle.erm_flush.proofs.flusher.Flusher.flush_all.Goals as goal

pub loop-stop-init : goal.loop-stop-init
loop-stop-init g c = record {
  stands = c.requires.stands;
  keeps = g.met.W.LogWorld.keeps_itself c.args.world.now;
  goes_on = goes_nowhere (g.W.LogWorld.log c.args.world.now) (g.W.LogWorld.log c.args.world.now) refl;
  same = refl;
  faults = refl;
  ready = c.requires.ready;
  still = λ failed. (refl, refl);
  told = λ fine. told_start c.stored_words_tell_the_row.ensures.short c.stored_words_tell_the_row.ensures.whole g.W.LogWorld.rows_law.meets (g.W.LogWorld.log c.args.world.now) (g.D.Disk.told c.args.disk.now)
      (g.met.W.LogWorld.is_log c.args.world.now c.requires.stands) (c.requires.ready fine);
}

pub loop-stop-preserved : goal.loop-stop-preserved
loop-stop-preserved g c =
    let turn = c.in_default.ensures.turn in
    let now = g.W.LogWorld.log c.flush_turn.new.world in
    record {
      stands = c.in_default.ensures.stands;
      keeps = g.met.W.LogWorld.keeps_on c.args.world.now c.loop-stop.world c.flush_turn.new.world c.loop-stop.invariant.keeps c.in_default.ensures.keeps;
      goes_on = goes_further (g.W.LogWorld.log c.args.world.now) (g.W.LogWorld.log c.loop-stop.world) now c.loop-stop.invariant.goes_on turn.2.goes_on;
      same = turn.1 ∙ sym turn.0 ∙ c.loop-stop.invariant.same;
      faults = c.in_default.ensures.counts ∙ c.loop-stop.invariant.faults;
      ready = c.in_default.ensures.ready;
      still = λ failed. let fine = turn.1 in absurd (cc);
      told = λ fine. told_turn c.stored_words_tell_the_row.ensures.short c.stored_words_tell_the_row.ensures.whole g.W.LogWorld.rows_law.meets (g.W.LogWorld.log c.args.world.now).flushed
          (g.W.LogWorld.log c.loop-stop.world) now (g.D.Disk.told c.args.disk.now) (g.D.Disk.told c.loop-stop.disk) (g.D.Disk.told c.flush_turn.new.disk)
          turn.2 (g.met.W.LogWorld.is_log c.flush_turn.new.world c.in_default.ensures.stands) (turn.3 ∙ turn.4)
          (c.loop-stop.invariant.told turn.0) (c.in_default.ensures.any_moment turn.0) c.in_default.ensures.lasts;
    }

pub returns-in-Err-clause-any_moment : goal.returns-in-Err-clause-any_moment
returns-in-Err-clause-any_moment g c = λ fine.
    let now = g.W.LogWorld.log c.flush_turn.new.world in
    let was = c.loop-stop.invariant.same ∙ fine in
    let on = stop_goes_on c.in-Err.stop c.loop-stop.self c.flush_turn.new.self (g.W.LogWorld.log c.loop-stop.world) now c.in-Err.ensures.turn in
    let all = goes_further (g.W.LogWorld.log c.args.world.now) (g.W.LogWorld.log c.loop-stop.world) now c.loop-stop.invariant.goes_on on in
    told_stop c.stored_words_tell_the_row.ensures.short c.stored_words_tell_the_row.ensures.whole g.W.LogWorld.rows_law.meets (g.W.LogWorld.log c.args.world.now)
    (g.W.LogWorld.log c.loop-stop.world) now (g.D.Disk.told c.args.disk.now) (g.D.Disk.told c.loop-stop.disk) (g.D.Disk.told c.flush_turn.new.disk)
    on (g.met.W.LogWorld.is_log c.flush_turn.new.world c.in-Err.ensures.stands) (ap (λ (x : Log). x.opened) all.log) (c.requires.ready fine)
    (stop_did c.in-Err.stop c.loop-stop.self c.flush_turn.new.self (g.W.LogWorld.log c.loop-stop.world) now (g.D.Disk.told c.loop-stop.disk) (g.D.Disk.told c.flush_turn.new.disk) c.in-Err.ensures.turn c.in-Err.ensures.stays)
    (c.loop-stop.invariant.told was) (c.in-Err.ensures.any_moment was)
