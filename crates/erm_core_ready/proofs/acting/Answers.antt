use Rattle.erm_core.specs.Cores.{core_of}
use Rattle.erm_core_ready.specs.Next.{IsActing}
use Rattle.erm_core_ready.proofs.Seats.{one_more, only_pending}
use Rattle.erm_core_ready.proofs.acting.Goals as goal

pub loop-seat-preserved : goal.loop-seat-preserved
loop-seat-preserved c = one_more (IsActing (core_of c.args.state.now)) c.loop-seat.seat c.loop-seat.invariant c.if-acts.ensures

pub returns : goal.returns
returns c = only_pending (core_of c.args.state.now) c.requires.sound c.loop-seat.seat c.loop-seat-test.false c.loop-seat.invariant
