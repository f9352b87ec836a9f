use Rattle.erm_lone.proofs.Leaves.{leaves_same, stays}
use Rattle.erm_lone.proofs.Moves.{next_same, onward}
use Rattle.erm_lone.proofs.lone.LoneSessionSharedSession.durable.Goals as goal

pub returns-clause-onward : goal.returns-clause-onward
returns-clause-onward g c =
    let v = g.W.RowWorld.view c.args.self.now.world in
    let t = g.W.RowWorld.view c.durable.new.self in
    onward c.worlds_move_on.ensures g.W.RowWorld.law v t c.args.self.now.seat (next_same c.worlds_move_on.ensures v t c.durable.ensures.same)

pub returns-clause-stands : goal.returns-clause-stands
returns-clause-stands g c =
    let v = g.W.RowWorld.view c.args.self.now.world in
    let t = g.W.RowWorld.view c.durable.new.self in
    let on = stays g.O.Others.standing v t c.args.self.now.seat (leaves_same v t c.args.self.now.seat c.durable.ensures.same) (c.requires.stands.1, c.requires.stands.2) in
    (c.durable.ensures.stands, on.0, on.1)
