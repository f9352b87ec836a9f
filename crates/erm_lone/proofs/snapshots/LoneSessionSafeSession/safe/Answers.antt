use Rattle.erm_lone.proofs.Leaves.{stays}
use Rattle.erm_lone.proofs.Moves.{onward}
use Rattle.erm_lone.proofs.Watching.{looked_leaves, looked_next, safe_so, safe_there, unsafe_met, unsafe_so}
use Rattle.erm_lone.proofs.snapshots.LoneSessionSafeSession.safe.Goals as goal

pub returns-clause-onward : goal.returns-clause-onward
returns-clause-onward g c =
    let v = g.W.RowWorld.view c.args.self.now.world in
    let t = g.W.RowWorld.view c.safe.new.self in
    onward c.worlds_move_on.ensures g.W.RowWorld.law v t c.args.self.now.seat
    (looked_next c.worlds_move_on.ensures c.safe.result v t c.args.self.now.seat c.requires.pending c.safe.ensures.ok c.safe.ensures.err)

pub returns-clause-ok : goal.returns-clause-ok
returns-clause-ok g c = safe_so c.safe.result (g.W.RowWorld.view c.args.self.now.world) (g.W.RowWorld.view c.safe.new.self) c.args.self.now.seat c.safe.ensures.ok

pub returns-clause-safe : goal.returns-clause-safe
returns-clause-safe g c =
    safe_there c.worlds_move_on.ensures c.safe.result g.W.RowWorld.law (g.W.RowWorld.view c.args.self.now.world) (g.W.RowWorld.view c.safe.new.self) c.args.self.now.seat c.safe.ensures.ok

pub returns-clause-err : goal.returns-clause-err
returns-clause-err g c = unsafe_so c.safe.result (g.W.RowWorld.view c.args.self.now.world) (g.W.RowWorld.view c.safe.new.self) c.args.self.now.seat c.safe.ensures.err

pub returns-clause-met : goal.returns-clause-met
returns-clause-met g c =
    unsafe_met c.worlds_move_on.ensures c.safe.result g.W.RowWorld.law (g.W.RowWorld.view c.args.self.now.world) (g.W.RowWorld.view c.safe.new.self) c.args.self.now.seat
    (g.met.W.RowWorld.serializable c.args.self.now.world c.requires.stands.0) c.safe.ensures.err

pub returns-clause-stands : goal.returns-clause-stands
returns-clause-stands g c =
    let v = g.W.RowWorld.view c.args.self.now.world in
    let t = g.W.RowWorld.view c.safe.new.self in
    let on = stays g.O.Others.standing v t c.args.self.now.seat (looked_leaves c.safe.result v t c.args.self.now.seat c.safe.ensures.ok c.safe.ensures.err)
    (c.requires.stands.1, c.requires.stands.2) in
    (c.safe.ensures.stands, on.0, on.1)
