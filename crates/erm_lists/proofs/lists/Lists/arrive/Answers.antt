use Rattle.std.proofs.Common.{◌≡◌, ap, ◌∙◌, sym, subst}
use Rattle.erm_core.specs.Cores.{core_of}
use Rattle.erm_core_view.specs.Views.{view_of}
use Rattle.erm_world.specs.Calls.{DidNotRead}
use Rattle.erm_core_steps.specs.Reads.{GoesOn, IsWaiting}
use Rattle.erm_lists.specs.Stands.{lists_view}
use Rattle.erm_core_steps.proofs.Owners.{not_yet, owner_other}
use Rattle.erm_core_steps.proofs.Results.{err_to}
use Rattle.erm_core_steps.proofs.Quiet.{active_seat, at_work}
use Rattle.erm_core_steps.proofs.Ways.{arrived_owner, arrived_walks, begin_stays, entry_arrives, entry_taken, goes_both}
use Rattle.erm_lists.proofs.lists.Lists.arrive.Goals as goal

pub load-requires-clause-at : goal.load-requires-clause-at
load-requires-clause-at g c =
    let at = active_seat c.args.self.now.sessions c.args.seat (core_of c.args.self.now.state) c.requires.stands.quiet c.requires.session c.requires.active in
    at_work at

pub load-requires-clause-taken : goal.load-requires-clause-taken
load-requires-clause-taken g c =
    let at = active_seat c.args.self.now.sessions c.args.seat (core_of c.args.self.now.state) c.requires.stands.quiet c.requires.session c.requires.active in
    entry_taken (core_of c.args.self.now.state) c.args.seat c.args.oid (at_work at) at.starts c.requires.object

pub pass_owner-requires-clause-owned : goal.pass_owner-requires-clause-owned
pass_owner-requires-clause-owned g c =
    let before = core_of c.args.self.now.state in
    let at = active_seat c.args.self.now.sessions c.args.seat before c.requires.stands.quiet c.requires.session c.requires.active in
    let other = owner_other c.args.self.now.sessions c.args.seat c.args.oid before c.requires.stands.sound.sound at c.requires.session.0 c.requires.object c.requires.new.unclaimed in
    let arrives = entry_arrives before (core_of c.load.new.self.state) c.args.seat c.args.oid (at_work at) at.starts other c.load.ensures.after in
    (arrived_owner c.args.oid (before.shared.objects c.args.oid).entry _ c.in-Owned.oid c.in-Owned.owner arrives (sym c.in-Owned.ensures)).is

pub returns-in-Owned-clause-goes : goal.returns-in-Owned-clause-goes
returns-in-Owned-clause-goes g c =
    let between = core_of c.load.new.self.state in
    let after = core_of c.pass_owner.new.self.state in
    goes_both c.args.self.now.sessions c.args.seat (core_of c.args.self.now.state) between after c.load.ensures.goes
    (subst (λ n. GoesOn n c.args.seat between after) c.load.ensures.sessions c.pass_owner.ensures.goes)

pub returns-in-Owned-clause-room : goal.returns-in-Owned-clause-room
returns-in-Owned-clause-room g c = λ n room. c.pass_owner.ensures.room n (c.load.ensures.room n room)

pub returns-in-Owned-clause-err : goal.returns-in-Owned-clause-err
returns-in-Owned-clause-err g c =
    let sessions = c.args.self.now.sessions in
    let seat = c.args.seat in
    let before = core_of c.args.self.now.state in
    let between = core_of c.load.new.self.state in
    let at = active_seat sessions seat before c.requires.stands.quiet c.requires.session c.requires.active in
    let other = owner_other sessions seat c.args.oid before c.requires.stands.sound.sound at c.requires.session.0 c.requires.object c.requires.new.unclaimed in
    let arrives = entry_arrives before between seat c.args.oid (at_work at) at.starts other c.load.ensures.after in
    let owned = arrived_owner c.args.oid (before.shared.objects c.args.oid).entry _ c.in-Owned.oid c.in-Owned.owner arrives (sym c.in-Owned.ensures) in
    let another : c.in-Owned.owner ≡ seat → ⊥ = λ same. other (owned.owns ∙ same) in
    let after = core_of c.pass_owner.new.self.state in
    let goes =
    goes_both sessions seat before between after c.load.ensures.goes (subst (λ n. GoesOn n seat between after) c.load.ensures.sessions c.pass_owner.ensures.goes)
    in
    let same : lists_view c.pass_owner.new.self ≡ lists_view c.args.self.now =
    ap (λ n. view_of n after) (c.pass_owner.ensures.sessions ∙ c.load.ensures.sessions) ∙ goes.unseen.view
    in
    err_to c.pass_owner.result (IsWaiting between seat c.in-Owned.owner)
    (λ why. DidNotRead (lists_view c.args.self.now) seat c.args.oid why (lists_view c.pass_owner.new.self))
    (λ why waits.
    not_yet sessions seat c.args.oid c.in-Owned.owner before between (lists_view c.pass_owner.new.self) why c.requires.stands.sound.sound c.requires.stands.quiet c.requires.object
    owned.some owned.owns another (c.load.ensures.goes.unseen.others c.in-Owned.owner another) (begin_stays sessions seat before between c.load.ensures.goes) same
    c.requires.new c.requires.few waits)
    c.pass_owner.ensures.err

pub returns-in_default-clause-ok : goal.returns-in_default-clause-ok
returns-in_default-clause-ok g c =
    let before = core_of c.args.self.now.state in
    let at = active_seat c.args.self.now.sessions c.args.seat before c.requires.stands.quiet c.requires.session c.requires.active in
    let other = owner_other c.args.self.now.sessions c.args.seat c.args.oid before c.requires.stands.sound.sound at c.requires.session.0 c.requires.object c.requires.new.unclaimed in
    let arrives = entry_arrives before (core_of c.load.new.self.state) c.args.seat c.args.oid (at_work at) at.starts other c.load.ensures.after in
    arrived_walks c.args.oid (before.shared.objects c.args.oid).entry _ arrives (λ oid owner is. c.in_default.not-Owned oid owner (c.task.ensures ∙ is))
