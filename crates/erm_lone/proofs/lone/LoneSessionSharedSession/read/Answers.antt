use Rattle.std.proofs.Common.{ℕ, List}
use Rattle.std.proofs.lemmas.Result.{IfOk-weaker}
use Rattle.erm_model.specs.declared.row_stop.RowStop.{RowStop}
use Rattle.erm_model.specs.RowTransaction.{asked_read, did_read}
use Rattle.erm_world.specs.Calls.{DidNotRead, DidRead}
use Rattle.erm_world.specs.World.{View}
use Rattle.erm_world.proofs.Commits.{tells_commits}
use Rattle.erm_beside.specs.Calls.{After, NotReadBeside}
use Rattle.erm_lone.proofs.Meets.{met_err}
use Rattle.erm_lone.proofs.Leaves.{called_leaves, stays}
use Rattle.erm_lone.proofs.Moves.{called_next, at_once, if_err, onward, refused_err}
use Rattle.erm_lone.proofs.lone.LoneSessionSharedSession.read.Goals as goal

pub returns-clause-onward : goal.returns-clause-onward
returns-clause-onward g c = onward c.worlds_move_on.ensures g.W.RowWorld.law (g.W.RowWorld.view c.args.self.now.world) (g.W.RowWorld.view c.read.new.self) c.args.self.now.seat (called_next c.worlds_move_on.ensures c.read.result g.W.RowWorld.law (g.W.RowWorld.view c.args.self.now.world) (g.W.RowWorld.view c.read.new.self) c.args.self.now.seat (λ (row : List ℕ). did_read c.args.oid row) (asked_read c.args.oid) c.requires.stands.1 c.requires.active c.read.ensures.ok c.read.ensures.err)

pub returns-clause-ok : goal.returns-clause-ok
returns-clause-ok g c = IfOk-weaker c.read.result (λ (row : List ℕ). DidRead (g.W.RowWorld.view c.args.self.now.world) c.args.self.now.seat c.args.oid row (g.W.RowWorld.view c.read.new.self)) (λ (row : List ℕ). After c.args.self.now.seat (λ (u t : View). DidRead u c.args.self.now.seat c.args.oid row t) (g.W.RowWorld.view c.args.self.now.world) (g.W.RowWorld.view c.read.new.self))
    (λ row did. at_once c.args.self.now.seat (λ (u t : View). DidRead u c.args.self.now.seat c.args.oid row t) (g.W.RowWorld.view c.args.self.now.world) (g.W.RowWorld.view c.read.new.self) did) c.read.ensures.ok

pub returns-clause-err : goal.returns-clause-err
returns-clause-err g c = if_err c.read.result (λ (why : RowStop). DidNotRead (g.W.RowWorld.view c.args.self.now.world) c.args.self.now.seat c.args.oid why (g.W.RowWorld.view c.read.new.self)) (λ (why : RowStop). After c.args.self.now.seat (NotReadBeside c.args.self.now.seat c.args.oid why) (g.W.RowWorld.view c.args.self.now.world) (g.W.RowWorld.view c.read.new.self))
    (λ why did. at_once c.args.self.now.seat (NotReadBeside c.args.self.now.seat c.args.oid why) (g.W.RowWorld.view c.args.self.now.world) (g.W.RowWorld.view c.read.new.self) (refused_err g.W.RowWorld.law (g.W.RowWorld.view c.args.self.now.world) (g.met.W.RowWorld.serializable c.args.self.now.world c.requires.stands.0) (g.W.RowWorld.view c.read.new.self) c.args.self.now.seat (asked_read c.args.oid) why did)) c.read.ensures.err

pub returns-clause-met : goal.returns-clause-met
returns-clause-met g c = met_err c.read.result tells_commits g.W.RowWorld.law (g.W.RowWorld.view c.args.self.now.world) (g.W.RowWorld.view c.read.new.self) c.args.self.now.seat (asked_read c.args.oid) (g.met.W.RowWorld.serializable c.args.self.now.world c.requires.stands.0) (called_next c.worlds_move_on.ensures c.read.result g.W.RowWorld.law (g.W.RowWorld.view c.args.self.now.world) (g.W.RowWorld.view c.read.new.self) c.args.self.now.seat (λ (row : List ℕ). did_read c.args.oid row) (asked_read c.args.oid) c.requires.stands.1 c.requires.active c.read.ensures.ok c.read.ensures.err).later c.read.ensures.err

pub returns-clause-stands : goal.returns-clause-stands
returns-clause-stands g c =
    let on = stays g.O.Others.standing (g.W.RowWorld.view c.args.self.now.world) (g.W.RowWorld.view c.read.new.self) c.args.self.now.seat (called_leaves c.read.result g.W.RowWorld.law (g.W.RowWorld.view c.args.self.now.world) (g.W.RowWorld.view c.read.new.self) c.args.self.now.seat (λ (row : List ℕ). did_read c.args.oid row) (asked_read c.args.oid) c.requires.active c.read.ensures.ok c.read.ensures.err) (c.requires.stands.1, c.requires.stands.2) in
    (c.read.ensures.stands, on.0, on.1)
