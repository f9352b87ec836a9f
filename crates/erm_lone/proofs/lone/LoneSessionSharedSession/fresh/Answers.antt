use Rattle.std.proofs.Common.{ℕ}
use Rattle.std.proofs.lemmas.Result.{IfOk-weaker}
use Rattle.erm_model.specs.declared.row_stop.RowStop.{RowStop}
use Rattle.erm_model.specs.RowTransaction.{asked_make, did_make}
use Rattle.erm_world.specs.Calls.{DidMake, DidNotMake}
use Rattle.erm_world.specs.World.{View}
use Rattle.erm_world.proofs.Commits.{tells_commits}
use Rattle.erm_beside.specs.Calls.{After, NotMadeBeside}
use Rattle.erm_lone.proofs.Meets.{met_err}
use Rattle.erm_lone.proofs.Leaves.{called_leaves, stays}
use Rattle.erm_lone.proofs.Moves.{called_next, at_once, if_err, onward, refused_err}
use Rattle.erm_lone.proofs.lone.LoneSessionSharedSession.fresh.Goals as goal

pub returns-clause-onward : goal.returns-clause-onward
returns-clause-onward g c = onward c.worlds_move_on.ensures g.W.RowWorld.law (g.W.RowWorld.view c.args.self.now.world) (g.W.RowWorld.view c.fresh.new.self) c.args.self.now.seat (called_next c.worlds_move_on.ensures c.fresh.result g.W.RowWorld.law (g.W.RowWorld.view c.args.self.now.world) (g.W.RowWorld.view c.fresh.new.self) c.args.self.now.seat (λ (oid : ℕ). did_make oid) asked_make c.requires.stands.1 c.requires.active c.fresh.ensures.ok c.fresh.ensures.err)

pub returns-clause-ok : goal.returns-clause-ok
returns-clause-ok g c = IfOk-weaker c.fresh.result (λ (oid : ℕ). DidMake (g.W.RowWorld.view c.args.self.now.world) c.args.self.now.seat oid (g.W.RowWorld.view c.fresh.new.self)) (λ (oid : ℕ). After c.args.self.now.seat (λ (u t : View). DidMake u c.args.self.now.seat oid t) (g.W.RowWorld.view c.args.self.now.world) (g.W.RowWorld.view c.fresh.new.self))
    (λ oid did. at_once c.args.self.now.seat (λ (u t : View). DidMake u c.args.self.now.seat oid t) (g.W.RowWorld.view c.args.self.now.world) (g.W.RowWorld.view c.fresh.new.self) did) c.fresh.ensures.ok

pub returns-clause-err : goal.returns-clause-err
returns-clause-err g c = if_err c.fresh.result (λ (why : RowStop). DidNotMake (g.W.RowWorld.view c.args.self.now.world) c.args.self.now.seat why (g.W.RowWorld.view c.fresh.new.self)) (λ (why : RowStop). After c.args.self.now.seat (NotMadeBeside c.args.self.now.seat why) (g.W.RowWorld.view c.args.self.now.world) (g.W.RowWorld.view c.fresh.new.self))
    (λ why did. at_once c.args.self.now.seat (NotMadeBeside c.args.self.now.seat why) (g.W.RowWorld.view c.args.self.now.world) (g.W.RowWorld.view c.fresh.new.self) (refused_err g.W.RowWorld.law (g.W.RowWorld.view c.args.self.now.world) (g.met.W.RowWorld.serializable c.args.self.now.world c.requires.stands.0) (g.W.RowWorld.view c.fresh.new.self) c.args.self.now.seat asked_make why did)) c.fresh.ensures.err

pub returns-clause-met : goal.returns-clause-met
returns-clause-met g c = met_err c.fresh.result tells_commits g.W.RowWorld.law (g.W.RowWorld.view c.args.self.now.world) (g.W.RowWorld.view c.fresh.new.self) c.args.self.now.seat asked_make (g.met.W.RowWorld.serializable c.args.self.now.world c.requires.stands.0) (called_next c.worlds_move_on.ensures c.fresh.result g.W.RowWorld.law (g.W.RowWorld.view c.args.self.now.world) (g.W.RowWorld.view c.fresh.new.self) c.args.self.now.seat (λ (oid : ℕ). did_make oid) asked_make c.requires.stands.1 c.requires.active c.fresh.ensures.ok c.fresh.ensures.err).later c.fresh.ensures.err

pub returns-clause-stands : goal.returns-clause-stands
returns-clause-stands g c =
    let on = stays g.O.Others.standing (g.W.RowWorld.view c.args.self.now.world) (g.W.RowWorld.view c.fresh.new.self) c.args.self.now.seat (called_leaves c.fresh.result g.W.RowWorld.law (g.W.RowWorld.view c.args.self.now.world) (g.W.RowWorld.view c.fresh.new.self) c.args.self.now.seat (λ (oid : ℕ). did_make oid) asked_make c.requires.active c.fresh.ensures.ok c.fresh.ensures.err) (c.requires.stands.1, c.requires.stands.2) in
    (c.fresh.ensures.stands, on.0, on.1)
