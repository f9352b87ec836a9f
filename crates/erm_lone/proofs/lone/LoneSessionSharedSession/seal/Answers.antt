use Rattle.erm_lone.proofs.Leaves.{seals_leaves, stays}
use Rattle.erm_lone.proofs.Moves.{onward, seals_next}
use Rattle.erm_lone.proofs.lone.LoneSessionSharedSession.seal.Goals as goal

pub returns-clause-onward : goal.returns-clause-onward
returns-clause-onward g c = onward c.worlds_move_on.ensures g.W.RowWorld.law (g.W.RowWorld.view c.args.self.now.world) (g.W.RowWorld.view c.seal.new.self) c.args.self.now.seat (seals_next c.worlds_move_on.ensures (g.W.RowWorld.view c.args.self.now.world) (g.W.RowWorld.view c.seal.new.self) c.args.self.now.seat c.seal.result c.requires.stands.1 c.requires.active c.seal.ensures.sealed)

pub returns-clause-stands : goal.returns-clause-stands
returns-clause-stands g c =
    let on = stays g.O.Others.standing (g.W.RowWorld.view c.args.self.now.world) (g.W.RowWorld.view c.seal.new.self) c.args.self.now.seat (seals_leaves (g.W.RowWorld.view c.args.self.now.world) (g.W.RowWorld.view c.seal.new.self) c.args.self.now.seat c.seal.result c.seal.ensures.sealed) (c.requires.stands.1, c.requires.stands.2) in
    (c.seal.ensures.stands, on.0, on.1)
