use Rattle.std.proofs.Common.{ℕ, List, Option, ◌++◌, ◌∙◌, sym, subst}
use Rattle.std.proofs.lemmas.Result.{err_from_is_err_and}
use Rattle.erm_outside.specs.Disk.{Step}
use Rattle.erm_outside.specs.Sink.{Puts}
use Rattle.erm_ship.specs.Sends.{Sent, blocks_text}
use Rattle.erm_ship.proofs.Puts.{puts_join}
use Rattle.erm_ship.proofs.Sending.{blocks_text-join, sent_join, stops_later}
use Rattle.erm_ship.proofs.blocks.put_blocks.Goals as goal

pub returns-in_err-place-clause-stops : goal.returns-in_err-place-clause-stops
returns-in_err-place-clause-stops g c =
    let p = err_from_is_err_and c.from_residual.result c.from_residual.ensures.1 in
    let here = c.loop-place.invariant in
    rw (p.1, p.2)
    (stops_later c.spelling_size.ensures.size c.spelling_size.ensures.most c.one_spelling.ensures _ _ c.args.start c.loop-place.place c.args.end _ here.blocks _ _ _ _ _ _ _ _ _
    here.told_same here.disk_same here.sink_same here.sent here.high here.puts c.in_err-place.ensures.stops)

pub loop-place-preserved : goal.loop-place-preserved
loop-place-preserved g c =
    let here = c.loop-place.invariant in
    let one = c.in_ok-place.ensures.one in
    let sent : Sent (g.D.Disk.told c.args.disk.now) c.loop-place.place one.blocks c.in_ok-place.place =
    subst (λ (t : Option (List Step)). Sent t c.loop-place.place one.blocks c.in_ok-place.place) here.told_same one.sent
    in
    record {
      blocks = here.blocks ++ one.blocks;
      sent = sent_join c.spelling_size.ensures.size c.spelling_size.ensures.most (g.D.Disk.told c.args.disk.now) c.args.start c.loop-place.place c.in_ok-place.place here.blocks one.blocks here.sent sent;
      puts = subst (λ (t : List ℕ). Puts t (g.K.Sink.written c.args.sink.now) (g.K.Sink.written c.put_window.new.sink)) (sym (blocks_text-join here.blocks one.blocks))
          (puts_join (blocks_text here.blocks) (blocks_text one.blocks) (g.K.Sink.written c.args.sink.now) (g.K.Sink.written c.loop-place.sink) (g.K.Sink.written c.put_window.new.sink) here.puts one.puts);
      high = one.high;
      told_same = c.in_ok-place.ensures.told ∙ here.told_same;
      disk_same = c.in_ok-place.ensures.sound (λ bad. cc) ∙ here.disk_same;
      sink_same = c.in_ok-place.ensures.sink ∙ here.sink_same;
    }
