use Rattle.erm_lone.proofs.Leaves.{stays}
use Rattle.erm_lone.proofs.Moves.{onward}
use Rattle.erm_lone.proofs.Saving.{not_saved_so, saved_so, saves_leaves, saves_next}
use Rattle.erm_lone.proofs.lone.LoneSessionSharedSession.save.Goals as goal

pub returns-clause-onward : goal.returns-clause-onward
returns-clause-onward g c =
    let v = g.W.RowWorld.view c.args.self.now.world in
    let t = g.W.RowWorld.view c.save.new.self in
    onward c.worlds_move_on.ensures g.W.RowWorld.law v t c.args.self.now.seat
    (saves_next c.worlds_move_on.ensures c.save.result v t c.args.self.now.seat c.save.ensures.ok c.save.ensures.err)

pub returns-clause-ok : goal.returns-clause-ok
returns-clause-ok g c = saved_so c.save.result (g.W.RowWorld.view c.args.self.now.world) (g.W.RowWorld.view c.save.new.self) c.args.self.now.seat c.save.ensures.ok

pub returns-clause-err : goal.returns-clause-err
returns-clause-err g c = not_saved_so c.save.result (g.W.RowWorld.view c.args.self.now.world) (g.W.RowWorld.view c.save.new.self) c.args.self.now.seat c.save.ensures.err

pub returns-clause-stands : goal.returns-clause-stands
returns-clause-stands g c =
    let v = g.W.RowWorld.view c.args.self.now.world in
    let t = g.W.RowWorld.view c.save.new.self in
    let on = stays g.O.Others.standing v t c.args.self.now.seat (saves_leaves c.save.result v t c.args.self.now.seat c.save.ensures.ok c.save.ensures.err) (c.requires.stands.1, c.requires.stands.2) in
    (c.save.ensures.stands, on.0, on.1)
