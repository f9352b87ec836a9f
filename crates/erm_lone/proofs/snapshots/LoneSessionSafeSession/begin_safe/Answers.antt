use Rattle.erm_lone.proofs.Leaves.{stays}
use Rattle.erm_lone.proofs.Moves.{onward}
use Rattle.erm_lone.proofs.Watching.{begins_leaves, begins_next, begun_so, refused_so}
use Rattle.erm_lone.proofs.snapshots.LoneSessionSafeSession.begin_safe.Goals as goal

pub returns-clause-onward : goal.returns-clause-onward
returns-clause-onward g c =
    let v = g.W.RowWorld.view c.args.self.now.world in
    let t = g.W.RowWorld.view c.begin_safe.new.self in
    onward c.worlds_move_on.ensures g.W.RowWorld.law v t c.args.self.now.seat
    (begins_next c.worlds_move_on.ensures c.begin_safe.result v t c.args.self.now.seat c.requires.idle c.begin_safe.ensures.ok c.begin_safe.ensures.err)

pub returns-clause-ok : goal.returns-clause-ok
returns-clause-ok g c = begun_so c.begin_safe.result (g.W.RowWorld.view c.args.self.now.world) (g.W.RowWorld.view c.begin_safe.new.self) c.args.self.now.seat c.begin_safe.ensures.ok

pub returns-clause-err : goal.returns-clause-err
returns-clause-err g c = refused_so c.begin_safe.result (g.W.RowWorld.view c.args.self.now.world) (g.W.RowWorld.view c.begin_safe.new.self) c.args.self.now.seat c.begin_safe.ensures.err

pub returns-clause-stands : goal.returns-clause-stands
returns-clause-stands g c =
    let v = g.W.RowWorld.view c.args.self.now.world in
    let t = g.W.RowWorld.view c.begin_safe.new.self in
    let on = stays g.O.Others.standing v t c.args.self.now.seat (begins_leaves c.begin_safe.result v t c.args.self.now.seat c.begin_safe.ensures.ok c.begin_safe.ensures.err)
    (c.requires.stands.1, c.requires.stands.2) in
    (c.begin_safe.ensures.stands, on.0, on.1)
