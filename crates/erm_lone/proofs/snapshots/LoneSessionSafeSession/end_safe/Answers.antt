use Rattle.erm_lone.proofs.Leaves.{aborts_leaves, stays}
use Rattle.erm_lone.proofs.Moves.{onward}
use Rattle.erm_lone.proofs.Watching.{ends_next}
use Rattle.erm_lone.proofs.snapshots.LoneSessionSafeSession.end_safe.Goals as goal

pub returns-clause-onward : goal.returns-clause-onward
returns-clause-onward g c =
    let v = g.W.RowWorld.view c.args.self.now.world in
    let t = g.W.RowWorld.view c.end_safe.new.self in
    onward c.worlds_move_on.ensures g.W.RowWorld.law v t c.args.self.now.seat (ends_next c.worlds_move_on.ensures v t c.args.self.now.seat c.requires.snapshot c.end_safe.ensures.ended)

pub returns-clause-stands : goal.returns-clause-stands
returns-clause-stands g c =
    let v = g.W.RowWorld.view c.args.self.now.world in
    let t = g.W.RowWorld.view c.end_safe.new.self in
    let on = stays g.O.Others.standing v t c.args.self.now.seat (aborts_leaves v t c.args.self.now.seat c.end_safe.ensures.ended) (c.requires.stands.1, c.requires.stands.2) in
    (c.end_safe.ensures.stands, on.0, on.1)
