use Rattle.erm_lone.proofs.Leaves.{begins_leaves, stays}
use Rattle.erm_lone.proofs.Moves.{begins_next, onward}
use Rattle.erm_lone.proofs.lone.LoneSessionSharedSession.begin.Goals as goal

pub returns-clause-onward : goal.returns-clause-onward
returns-clause-onward g c = onward c.worlds_move_on.ensures g.W.RowWorld.law (g.W.RowWorld.view c.args.self.now.world) (g.W.RowWorld.view c.begin.new.self) c.args.self.now.seat (begins_next c.worlds_move_on.ensures c.begin.result (g.W.RowWorld.view c.args.self.now.world) (g.W.RowWorld.view c.begin.new.self) c.args.self.now.seat c.requires.idle c.begin.ensures.ok c.begin.ensures.err)

pub returns-clause-stands : goal.returns-clause-stands
returns-clause-stands g c =
    let on = stays g.O.Others.standing (g.W.RowWorld.view c.args.self.now.world) (g.W.RowWorld.view c.begin.new.self) c.args.self.now.seat (begins_leaves c.begin.result (g.W.RowWorld.view c.args.self.now.world) (g.W.RowWorld.view c.begin.new.self) c.args.self.now.seat c.begin.ensures.ok c.begin.ensures.err) (c.requires.stands.1, c.requires.stands.2) in
    (c.begin.ensures.stands, on.0, on.1)
