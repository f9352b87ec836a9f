use Rattle.std.proofs.Common.{ℕ, List, subst}
use Rattle.erm_outside.specs.Sink.{Puts}
use Rattle.erm_follow_run.proofs.Ending.{piece_ends_so}
use Rattle.erm_follow_run.proofs.following.hear_fed.Goals as goal

pub returns-in-Ok-clause-ends : goal.returns-in-Ok-clause-ends
returns-in-Ok-clause-ends g c =
    piece_ends_so c.put_halt.result c.drain-drained.result.halt c.args.stream.now c.drain-drained.new.stream c.args.follow.now c.drain-drained.new.follow c.drain-drained.result.text
    (g.K.Sink.written c.args.sink.now) (g.K.Sink.written c.put_all.new.sink) (g.K.Sink.written c.put_halt.new.sink) (g.K.Sink.faults c.args.sink.now) (g.K.Sink.faults c.put_all.new.sink) (g.K.Sink.faults c.put_halt.new.sink)
    c.drain-drained.ensures (subst (λ (text : List ℕ). Puts text (g.K.Sink.written c.args.sink.now) (g.K.Sink.written c.put_all.new.sink)) c.as_slice.ensures c.in-Ok.ensures.all) c.in-Ok.ensures.sound c.put_halt.ensures.ends
