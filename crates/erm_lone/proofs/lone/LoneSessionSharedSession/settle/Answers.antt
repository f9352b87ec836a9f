use Rattle.erm_world.specs.declared.stops.Wait.{Wait}
use Rattle.erm_world.specs.Calls.{DidNotSettle}
use Rattle.erm_beside.specs.Calls.{After, NotSettledBeside}
use Rattle.erm_lone.proofs.Leaves.{settles_leaves, stays}
use Rattle.erm_lone.proofs.Moves.{at_once, if_err, onward, settled_err, settles_next}
use Rattle.erm_lone.proofs.lone.LoneSessionSharedSession.settle.Goals as goal

pub returns-clause-onward : goal.returns-clause-onward
returns-clause-onward g c = onward c.worlds_move_on.ensures g.W.RowWorld.law (g.W.RowWorld.view c.args.self.now.world) (g.W.RowWorld.view c.settle.new.self) c.args.self.now.seat (settles_next c.worlds_move_on.ensures c.settle.result (g.W.RowWorld.view c.args.self.now.world) (g.W.RowWorld.view c.settle.new.self) c.args.self.now.seat c.requires.stands.1 c.settle.ensures.ok c.settle.ensures.err)

pub returns-clause-err : goal.returns-clause-err
returns-clause-err g c = if_err c.settle.result (λ (why : Wait). DidNotSettle (g.W.RowWorld.view c.args.self.now.world) c.args.self.now.seat why (g.W.RowWorld.view c.settle.new.self)) (λ (why : Wait). After c.args.self.now.seat (NotSettledBeside c.args.self.now.seat why) (g.W.RowWorld.view c.args.self.now.world) (g.W.RowWorld.view c.settle.new.self))
    (λ why did. at_once c.args.self.now.seat (NotSettledBeside c.args.self.now.seat why) (g.W.RowWorld.view c.args.self.now.world) (g.W.RowWorld.view c.settle.new.self) (settled_err g.W.RowWorld.law (g.W.RowWorld.view c.args.self.now.world) (g.W.RowWorld.view c.settle.new.self) c.args.self.now.seat why (g.met.W.RowWorld.serializable c.args.self.now.world c.requires.stands.0) did)) c.settle.ensures.err

pub returns-clause-stands : goal.returns-clause-stands
returns-clause-stands g c =
    let on = stays g.O.Others.standing (g.W.RowWorld.view c.args.self.now.world) (g.W.RowWorld.view c.settle.new.self) c.args.self.now.seat (settles_leaves c.settle.result (g.W.RowWorld.view c.args.self.now.world) (g.W.RowWorld.view c.settle.new.self) c.args.self.now.seat c.settle.ensures.ok c.settle.ensures.err) (c.requires.stands.1, c.requires.stands.2) in
    (c.settle.ensures.stands, on.0, on.1)
