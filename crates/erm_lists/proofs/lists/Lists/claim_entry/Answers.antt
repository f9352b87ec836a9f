use Rattle.std.proofs.Common.{◌≡◌, ◌≢◌, ◌<◌, ℕ, false, ap, ◌∙◌, sym, subst, arith}
use Rattle.erm_machine.specs.Words.{number_of, owner_of}
use Rattle.erm_core.specs.Cores.{core_of}
use Rattle.erm_core.specs.declared.need.Need.TheVariants as need
use Rattle.erm_core_view.specs.Views.{IsQuiet, view_of}
use Rattle.erm_world.specs.Calls.{IsDone, IsOwned, MayClaim}
use Rattle.erm_world.specs.World.{IsSession, View, phase_at, work_at}
use Rattle.erm_world.specs.World as world
use Rattle.erm_world.specs.Works.{is_claimed}
use Rattle.erm_core_steps.specs.Reads.{GoesOn}
use Rattle.erm_lists.specs.Stands.{lists_view}
use Rattle.erm_core_steps.specs.Steps.{found_in}
use Rattle.erm_core_steps.proofs.Early.{quiet_goes}
use Rattle.erm_core_steps.proofs.Exchanges.{arrives_starts, has_head}
use Rattle.erm_core_steps.proofs.Owners.{owner_other}
use Rattle.erm_core_steps.proofs.Unowned.{owner_owned}
use Rattle.erm_core_steps.proofs.Ways.{entry_arrives, entry_taken, goes_both}
use Rattle.erm_lists.proofs.lists.Lists.claim_entry.Goals as goal

pub load-requires-clause-taken : goal.load-requires-clause-taken
load-requires-clause-taken g c =
    entry_taken (core_of c.leave_cleared.new.self.state) c.args.seat c.args.oid c.leave_cleared.ensures.goes.at c.leave_cleared.ensures.starts c.requires.object

pub abort-requires-clause-stands : goal.abort-requires-clause-stands
abort-requires-clause-stands g c =
    let sessions = c.args.self.now.sessions in
    let seat = c.args.seat in
    let oid = c.args.oid in
    let before = core_of c.args.self.now.state in
    let between = core_of c.leave_cleared.new.self.state in
    let after = core_of c.load.new.self.state in
    let goes = goes_both sessions seat before between after c.leave_cleared.ensures.goes (subst (λ n. GoesOn n seat between after) c.leave_cleared.ensures.sessions c.load.ensures.goes) in
    let at = c.leave_cleared.ensures.goes.at in
    let unclaimed = subst (λ v. is_claimed (work_at v seat).claims oid ≡ false) (sym c.leave_cleared.ensures.goes.unseen.view) c.requires.may.0 in
    let other =
    owner_other sessions seat oid between c.leave_cleared.ensures.sound.sound (record { session = at.session; active = at.active; starts = c.leave_cleared.ensures.starts })
    c.requires.session.0 c.requires.object unclaimed
    in
    let starts = arrives_starts oid (between.shared.objects oid).entry _ (entry_arrives between after seat oid at c.leave_cleared.ensures.starts other c.load.ensures.after) in
    record {
      sound = c.load.ensures.sound;
      quiet =
          subst (λ n. IsQuiet n after) (sym (c.load.ensures.sessions ∙ c.leave_cleared.ensures.sessions))
          (quiet_goes sessions seat before after c.requires.stands.quiet c.requires.session c.load.ensures.sound.sound goes starts);
    }

pub returns-then-owner-ne0-clause-err : goal.returns-then-owner-ne0-clause-err
returns-then-owner-ne0-clause-err g c =
    let sessions = c.args.self.now.sessions in
    let seat = c.args.seat in
    let oid = c.args.oid in
    let before = core_of c.args.self.now.state in
    let between = core_of c.leave_cleared.new.self.state in
    let after = core_of c.load.new.self.state in
    let goes = goes_both sessions seat before between after c.leave_cleared.ensures.goes (subst (λ n. GoesOn n seat between after) c.leave_cleared.ensures.sessions c.load.ensures.goes) in
    let at = c.leave_cleared.ensures.goes.at in
    let unclaimed = subst (λ v. is_claimed (work_at v seat).claims oid ≡ false) (sym c.leave_cleared.ensures.goes.unseen.view) c.requires.may.0 in
    let other =
    owner_other sessions seat oid between c.leave_cleared.ensures.sound.sound (record { session = at.session; active = at.active; starts = c.leave_cleared.ensures.starts })
    c.requires.session.0 c.requires.object unclaimed
    in
    let quiet =
    quiet_goes sessions seat before between c.requires.stands.quiet c.requires.session c.leave_cleared.ensures.sound.sound c.leave_cleared.ensures.goes c.leave_cleared.ensures.starts
    in
    let entry : c.found-entry.result ≡ (between.shared.objects oid).entry = c.found-entry.ensures ∙ ap found_in c.load.ensures.answer in
    let owns : owner_of (between.shared.objects oid).entry ≡ c.owner_of-owner.result = sym (c.owner_of-owner.ensures ∙ ap owner_of entry) in
    let some : 0 < c.owner_of-owner.result = positive c.owner_of-owner.result c.if-owner-ne0.true in
    let another : c.owner_of-owner.result ≢ seat = λ same. other (owns ∙ same) in
    let number : number_of (between.shared.objects oid).entry ≡ c.number_of.result = sym (c.number_of.ensures ∙ ap number_of entry) in
    let shown : lists_view c.load.new.self ≡ lists_view c.args.self.now = ap (λ n. view_of n after) (c.load.ensures.sessions ∙ c.leave_cleared.ensures.sessions) ∙ goes.unseen.view in
    let owned = owner_owned sessions seat oid c.owner_of-owner.result between c.leave_cleared.ensures.sound.sound quiet c.requires.object some owns another in (
      c.requires.may,
      subst (λ v. IsDone v seat (work_at v seat) world.aborts (lists_view c.abort.new.self)) shown c.abort.ensures.aborted,
      subst (λ n. IsOwned (lists_view c.args.self.now) seat oid c.owner_of-owner.result n) number
          (subst (λ v. IsOwned v seat oid c.owner_of-owner.result (number_of (between.shared.objects oid).entry)) c.leave_cleared.ensures.goes.unseen.view owned),
    )
  where
    positive : (n : ℕ) → (n ≡ 0 → ⊥) → 0 < n
    positive n ne = grind arith

pub claim_head-requires-clause-stands : goal.claim_head-requires-clause-stands
claim_head-requires-clause-stands g c =
    let sessions = c.args.self.now.sessions in
    let seat = c.args.seat in
    let oid = c.args.oid in
    let before = core_of c.args.self.now.state in
    let between = core_of c.leave_cleared.new.self.state in
    let after = core_of c.load.new.self.state in
    let goes = goes_both sessions seat before between after c.leave_cleared.ensures.goes (subst (λ n. GoesOn n seat between after) c.leave_cleared.ensures.sessions c.load.ensures.goes) in
    let at = c.leave_cleared.ensures.goes.at in
    let unclaimed = subst (λ v. is_claimed (work_at v seat).claims oid ≡ false) (sym c.leave_cleared.ensures.goes.unseen.view) c.requires.may.0 in
    let other =
    owner_other sessions seat oid between c.leave_cleared.ensures.sound.sound (record { session = at.session; active = at.active; starts = c.leave_cleared.ensures.starts })
    c.requires.session.0 c.requires.object unclaimed
    in
    let starts = arrives_starts oid (between.shared.objects oid).entry _ (entry_arrives between after seat oid at c.leave_cleared.ensures.starts other c.load.ensures.after) in
    record {
      sound = c.load.ensures.sound;
      quiet =
          subst (λ n. IsQuiet n after) (sym (c.load.ensures.sessions ∙ c.leave_cleared.ensures.sessions))
          (quiet_goes sessions seat before after c.requires.stands.quiet c.requires.session c.load.ensures.sound.sound goes starts);
    }

pub claim_head-requires-clause-head : goal.claim_head-requires-clause-head
claim_head-requires-clause-head g c =
    let between = core_of c.leave_cleared.new.self.state in
    let entry : c.found-entry.result ≡ (between.shared.objects c.args.oid).entry = c.found-entry.ensures ∙ ap found_in c.load.ensures.answer in
    has_head between (core_of c.load.new.self.state) c.args.seat c.args.oid c.found-entry.result c.leave_cleared.ensures.goes.at c.leave_cleared.ensures.starts c.leave_cleared.ensures.left c.load.ensures.after entry
    (sym c.owner_of-owner.ensures ∙ c.if-owner-ne0.false)

pub claim_head-requires-clause-may : goal.claim_head-requires-clause-may
claim_head-requires-clause-may g c =
    let after = core_of c.load.new.self.state in
    let shown : lists_view c.load.new.self ≡ lists_view c.args.self.now =
    ap (λ n. view_of n after) (c.load.ensures.sessions) ∙ c.load.ensures.goes.unseen.view
    ∙ ap (λ n. view_of n (core_of c.leave_cleared.new.self.state)) c.leave_cleared.ensures.sessions ∙ c.leave_cleared.ensures.goes.unseen.view
    in
    subst (λ v. MayClaim (work_at v c.args.seat) c.args.oid) (sym shown) c.requires.may

pub claim_head-requires-clause-room : goal.claim_head-requires-clause-room
claim_head-requires-clause-room g c = c.load.ensures.room (need.Claim c.args.oid) (c.leave_cleared.ensures.room (need.Claim c.args.oid) c.requires.room)
