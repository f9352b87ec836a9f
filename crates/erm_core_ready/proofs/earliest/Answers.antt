use Rattle.erm_core.specs.Cores.{core_of}
use Rattle.erm_core_ready.proofs.Seats.{all_begun}
use Rattle.erm_core_ready.proofs.earliest.Goals as goal

pub loop-seat-preserved : goal.loop-seat-preserved
loop-seat-preserved c = c.lesser-least.ensures.begun (core_of c.args.state.now) c.begun_at.ensures c.loop-seat.invariant

pub returns : goal.returns
returns c = all_begun (core_of c.args.state.now) c.requires.sound c.loop-seat.seat c.loop-seat-test.false c.loop-seat.least c.loop-seat.invariant
