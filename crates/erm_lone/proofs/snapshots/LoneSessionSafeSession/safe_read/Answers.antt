use Rattle.erm_lone.proofs.Leaves.{leaves_same, stays}
use Rattle.erm_lone.proofs.Moves.{next_same, onward}
use Rattle.erm_lone.proofs.Watching.{row_below, same_passes}
use Rattle.erm_lone.proofs.snapshots.LoneSessionSafeSession.safe_read.Goals as goal

pub returns-clause-onward : goal.returns-clause-onward
returns-clause-onward g c =
    let v = g.W.RowWorld.view c.args.self.now.world in
    let t = g.W.RowWorld.view c.safe_read.new.self in
    onward c.worlds_move_on.ensures g.W.RowWorld.law v t c.args.self.now.seat (next_same c.worlds_move_on.ensures v t c.safe_read.ensures.same)

pub returns-clause-same : goal.returns-clause-same
returns-clause-same g c = same_passes c.args.self.now.seat (g.W.RowWorld.view c.args.self.now.world) (g.W.RowWorld.view c.safe_read.new.self) c.safe_read.ensures.same

pub returns-clause-row : goal.returns-clause-row
returns-clause-row g c = λ f end.
    row_below c.worlds_move_on.ensures g.W.RowWorld.law (g.W.RowWorld.view c.args.self.now.world) (g.W.RowWorld.view c.safe_read.new.self) f c.args.self.now.seat c.args.oid c.safe_read.result
    (g.met.W.SafeWorld.safe_stamps c.args.self.now.world c.requires.stands.0 c.args.self.now.seat c.requires.stands.1 c.requires.safe) c.safe_read.ensures.same c.safe_read.ensures.row end

pub returns-clause-stands : goal.returns-clause-stands
returns-clause-stands g c =
    let v = g.W.RowWorld.view c.args.self.now.world in
    let t = g.W.RowWorld.view c.safe_read.new.self in
    let on = stays g.O.Others.standing v t c.args.self.now.seat (leaves_same v t c.args.self.now.seat c.safe_read.ensures.same) (c.requires.stands.1, c.requires.stands.2) in
    (c.safe_read.ensures.stands, on.0, on.1)
