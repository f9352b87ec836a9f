use Rattle.erm_lone.proofs.Leaves.{aborts_leaves, stays}
use Rattle.erm_lone.proofs.Moves.{aborts_next, onward}
use Rattle.erm_lone.proofs.lone.LoneSessionSharedSession.abort.Goals as goal

pub returns-clause-onward : goal.returns-clause-onward
returns-clause-onward g c = onward c.worlds_move_on.ensures g.W.RowWorld.law (g.W.RowWorld.view c.args.self.now.world) (g.W.RowWorld.view c.abort.new.self) c.args.self.now.seat (aborts_next c.worlds_move_on.ensures (g.W.RowWorld.view c.args.self.now.world) (g.W.RowWorld.view c.abort.new.self) c.args.self.now.seat c.requires.active c.abort.ensures.aborted)

pub returns-clause-stands : goal.returns-clause-stands
returns-clause-stands g c =
    let on = stays g.O.Others.standing (g.W.RowWorld.view c.args.self.now.world) (g.W.RowWorld.view c.abort.new.self) c.args.self.now.seat (aborts_leaves (g.W.RowWorld.view c.args.self.now.world) (g.W.RowWorld.view c.abort.new.self) c.args.self.now.seat c.abort.ensures.aborted) (c.requires.stands.1, c.requires.stands.2) in
    (c.abort.ensures.stands, on.0, on.1)
