use Rattle.erm_lone.proofs.Leaves.{stays}
use Rattle.erm_lone.proofs.Moves.{onward}
use Rattle.erm_lone.proofs.Saving.{back_so, backs_leaves, backs_next, no_save_so}
use Rattle.erm_lone.proofs.lone.LoneSessionSharedSession.back.Goals as goal

pub returns-clause-onward : goal.returns-clause-onward
returns-clause-onward g c =
    let v = g.W.RowWorld.view c.args.self.now.world in
    let t = g.W.RowWorld.view c.back.new.self in
    onward c.worlds_move_on.ensures g.W.RowWorld.law v t c.args.self.now.seat
    (backs_next c.worlds_move_on.ensures c.back.result g.W.RowWorld.law v t c.args.self.now.seat c.args.n (g.met.W.RowWorld.serializable c.args.self.now.world c.requires.stands.0) c.requires.stands.1 c.requires.active c.back.ensures.ok c.back.ensures.err)

pub returns-clause-ok : goal.returns-clause-ok
returns-clause-ok g c = back_so c.back.result (g.W.RowWorld.view c.args.self.now.world) (g.W.RowWorld.view c.back.new.self) c.args.self.now.seat c.args.n c.back.ensures.ok

pub returns-clause-err : goal.returns-clause-err
returns-clause-err g c = no_save_so c.back.result (g.W.RowWorld.view c.args.self.now.world) (g.W.RowWorld.view c.back.new.self) c.args.self.now.seat c.args.n c.back.ensures.err

pub returns-clause-stands : goal.returns-clause-stands
returns-clause-stands g c =
    let v = g.W.RowWorld.view c.args.self.now.world in
    let t = g.W.RowWorld.view c.back.new.self in
    let on = stays g.O.Others.standing v t c.args.self.now.seat (backs_leaves c.back.result v t c.args.self.now.seat c.args.n c.back.ensures.ok c.back.ensures.err) (c.requires.stands.1, c.requires.stands.2) in
    (c.back.ensures.stands, on.0, on.1)
