use Rattle.std.proofs.lemmas.Result.{on_ok_weaker}
use Rattle.erm_model.specs.declared.row_stop.RowStop.{RowStop}
use Rattle.erm_model.specs.RowTransaction.{asked_claim, did_claim}
use Rattle.erm_world.specs.Calls.{DidClaim, DidNotClaim}
use Rattle.erm_world.specs.World.{View}
use Rattle.erm_world.proofs.Commits.{tells_commits}
use Rattle.erm_beside.specs.Calls.{After, NotClaimedBeside}
use Rattle.erm_lone.proofs.Meets.{met_err}
use Rattle.erm_lone.proofs.Leaves.{wrote_leaves, stays}
use Rattle.erm_lone.proofs.Moves.{wrote_next, at_once, if_err, onward, refused_err}
use Rattle.erm_lone.proofs.lone.LoneSessionSharedSession.claim.Goals as goal

pub returns-clause-onward : goal.returns-clause-onward
returns-clause-onward g c = onward c.worlds_move_on.ensures g.W.RowWorld.law (g.W.RowWorld.view c.args.self.now.world) (g.W.RowWorld.view c.claim.new.self) c.args.self.now.seat (wrote_next c.worlds_move_on.ensures c.claim.result g.W.RowWorld.law (g.W.RowWorld.view c.args.self.now.world) (g.W.RowWorld.view c.claim.new.self) c.args.self.now.seat (did_claim c.args.oid) (asked_claim c.args.oid) c.requires.stands.1 c.requires.active c.claim.ensures.ok c.claim.ensures.err)

pub returns-clause-ok : goal.returns-clause-ok
returns-clause-ok g c = on_ok_weaker c.claim.result (λ did. at_once c.args.self.now.seat (λ (u t : View). DidClaim u c.args.self.now.seat c.args.oid t) (g.W.RowWorld.view c.args.self.now.world) (g.W.RowWorld.view c.claim.new.self) did) c.claim.ensures.ok

pub returns-clause-err : goal.returns-clause-err
returns-clause-err g c = if_err c.claim.result (λ (why : RowStop). DidNotClaim (g.W.RowWorld.view c.args.self.now.world) c.args.self.now.seat c.args.oid why (g.W.RowWorld.view c.claim.new.self)) (λ (why : RowStop). After c.args.self.now.seat (NotClaimedBeside c.args.self.now.seat c.args.oid why) (g.W.RowWorld.view c.args.self.now.world) (g.W.RowWorld.view c.claim.new.self))
    (λ why did. at_once c.args.self.now.seat (NotClaimedBeside c.args.self.now.seat c.args.oid why) (g.W.RowWorld.view c.args.self.now.world) (g.W.RowWorld.view c.claim.new.self) (refused_err g.W.RowWorld.law (g.W.RowWorld.view c.args.self.now.world) (g.met.W.RowWorld.serializable c.args.self.now.world c.requires.stands.0) (g.W.RowWorld.view c.claim.new.self) c.args.self.now.seat (asked_claim c.args.oid) why did)) c.claim.ensures.err

pub returns-clause-met : goal.returns-clause-met
returns-clause-met g c = met_err c.claim.result tells_commits g.W.RowWorld.law (g.W.RowWorld.view c.args.self.now.world) (g.W.RowWorld.view c.claim.new.self) c.args.self.now.seat (asked_claim c.args.oid) (g.met.W.RowWorld.serializable c.args.self.now.world c.requires.stands.0) (wrote_next c.worlds_move_on.ensures c.claim.result g.W.RowWorld.law (g.W.RowWorld.view c.args.self.now.world) (g.W.RowWorld.view c.claim.new.self) c.args.self.now.seat (did_claim c.args.oid) (asked_claim c.args.oid) c.requires.stands.1 c.requires.active c.claim.ensures.ok c.claim.ensures.err).later c.claim.ensures.err

pub returns-clause-stands : goal.returns-clause-stands
returns-clause-stands g c =
    let on = stays g.O.Others.standing (g.W.RowWorld.view c.args.self.now.world) (g.W.RowWorld.view c.claim.new.self) c.args.self.now.seat (wrote_leaves c.claim.result g.W.RowWorld.law (g.W.RowWorld.view c.args.self.now.world) (g.W.RowWorld.view c.claim.new.self) c.args.self.now.seat (did_claim c.args.oid) (asked_claim c.args.oid) c.requires.active c.claim.ensures.ok c.claim.ensures.err) (c.requires.stands.1, c.requires.stands.2) in
    (c.claim.ensures.stands, on.0, on.1)
