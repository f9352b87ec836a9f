use Rattle.std.proofs.Common.{◌≡◌, ◌≢◌, ℕ, ap, ◌∙◌, sym, subst, refl, arith}
use Rattle.erm_model.specs.declared.row_stop.RowStop.TheVariants.{CellsFull}
use Rattle.erm_world.specs.Calls.{DidClaim, DidNotClaim}
use Rattle.erm_core_steps.proofs.Results.{err_to, on_ok_to}
use Rattle.erm_model.specs.declared.outcome.Phase.TheVariants as phase
use Rattle.erm_machine.specs.Seat.{may_start}
use Rattle.erm_machine.specs.Words.{owner_of}
use Rattle.erm_core.specs.Cores.{core_of}
use Rattle.erm_core.specs.Rooms.{HasSwapRoom}
use Rattle.erm_core_view.specs.Views.{IsQuiet, view_of}
use Rattle.erm_world.specs.World.{IsSession, phase_at}
use Rattle.erm_core_steps.specs.Finishes.{IsDropped}
use Rattle.erm_core_steps.specs.Reads.{IsExcluded}
use Rattle.erm_lists.specs.Stands.{lists_view}
use Rattle.erm_core_steps.specs.Steps.{IsUnseen}
use Rattle.erm_core_steps.proofs.Exchanges.{claim_done, claim_excluded, claims_count, dropped_same, excluded_cells, free_current, quiet_claimed, quiet_dropped}
use Rattle.erm_core_steps.proofs.Quiet.{active_seat, at_work}
use Rattle.erm_core_steps.proofs.Readings.{still_active, still_session}
use Rattle.erm_core_steps.proofs.Unowned.{unowned}
use Rattle.erm_lists.proofs.lists.Lists.claim_found.Goals as goal

pub exchange-requires-clause-at : goal.exchange-requires-clause-at
exchange-requires-clause-at g c =
    let at = active_seat c.args.self.now.sessions c.args.seat (core_of c.args.self.now.state) c.requires.stands.quiet c.requires.session c.requires.active in
    at_work at

pub finish_claim-requires-clause-may : goal.finish_claim-requires-clause-may
finish_claim-requires-clause-may g c =
    let ex = c.exchange.ensures.exchanged in
    record {
      version = ex.version;
      claimed = ex.claimed;
      room = subst (λ n. HasSwapRoom c.exchange.new.self.state c.args.seat n) (sym ex.oid_is) c.exchange.ensures.room;
    }

pub returns-then-not-finish_claim-clause-stands : goal.returns-then-not-finish_claim-clause-stands
returns-then-not-finish_claim-clause-stands g c =
    let sessions = c.args.self.now.sessions in
    let between = core_of c.exchange.new.self.state in
    let after = core_of c.finish_claim.new.self.state in
    let dropped = subst (λ n. IsDropped n c.args.seat between after) c.exchange.ensures.sessions (c.finish_claim.ensures.dropped c.if-not-finish_claim.true) in
    record {
      sound = c.finish_claim.ensures.sound;
      quiet =
          subst (λ n. IsQuiet n after) (sym (c.finish_claim.ensures.sessions ∙ c.exchange.ensures.sessions))
          (quiet_dropped sessions c.args.seat c.args.oid (core_of c.args.self.now.state) between after c.requires.stands.quiet c.requires.session c.exchange.ensures.exchanged dropped
          c.finish_claim.ensures.sound.sound c.finish_claim.ensures.active (ap may_start c.finish_claim.ensures.rests));
    }

pub returns-then-not-finish_claim-clause-err : goal.returns-then-not-finish_claim-clause-err
returns-then-not-finish_claim-clause-err g c =
    let sessions = c.args.self.now.sessions in
    let between = core_of c.exchange.new.self.state in
    let after = core_of c.finish_claim.new.self.state in
    let dropped = subst (λ n. IsDropped n c.args.seat between after) c.exchange.ensures.sessions (c.finish_claim.ensures.dropped c.if-not-finish_claim.true) in
    let same : view_of sessions after ≡ lists_view c.args.self.now =
    dropped_same (lists_view c.args.self.now) (view_of sessions between) (view_of sessions after) c.args.seat _ c.requires.active c.exchange.ensures.exchanged.shows dropped.shows
    in
    (ap (λ n. view_of n after) (c.finish_claim.ensures.sessions ∙ c.exchange.ensures.sessions) ∙ same, c.requires.may.0)

pub test_early-requires : goal.test_early-requires
test_early-requires g c =
    let sessions = c.args.self.now.sessions in
    let seat = c.args.seat in
    let between = core_of c.exchange.new.self.state in
    let after = core_of c.finish_claim.new.self.state in
    let unseen = subst (λ n. IsUnseen n seat between after) c.exchange.ensures.sessions (c.finish_claim.ensures.done c.if-not-finish_claim.false) in
    let all : c.finish_claim.new.self.sessions ≡ sessions = c.finish_claim.ensures.sessions ∙ c.exchange.ensures.sessions in
    let shown : lists_view c.finish_claim.new.self ≡ view_of sessions between = ap (λ n. view_of n after) all ∙ unseen.view in
    let shows = c.exchange.ensures.exchanged.shows in
    record {
      stands = record {
        sound = c.finish_claim.ensures.sound;
        quiet =
            subst (λ n. IsQuiet n after) (sym all)
            (quiet_claimed sessions seat c.args.oid (core_of c.args.self.now.state) between after c.requires.stands.quiet c.requires.session c.exchange.ensures.exchanged unseen
            c.finish_claim.ensures.sound.sound c.finish_claim.ensures.active (ap may_start c.finish_claim.ensures.rests));
      };
      session = subst (λ v. IsSession v seat) (sym shown) (still_session (lists_view c.args.self.now) (view_of sessions between) seat _ shows c.requires.session);
      active = subst (λ v. phase_at v seat ≡ phase.Active) (sym shown) (still_active (lists_view c.args.self.now) (view_of sessions between) seat _ shows);
    }

pub returns-clause-ok : goal.returns-clause-ok
returns-clause-ok g c =
    let sessions = c.args.self.now.sessions in
    let seat = c.args.seat in
    let before = core_of c.args.self.now.state in
    let between = core_of c.exchange.new.self.state in
    let after = core_of c.finish_claim.new.self.state in
    let unseen = subst (λ n. IsUnseen n seat between after) c.exchange.ensures.sessions (c.finish_claim.ensures.done c.if-not-finish_claim.false) in
    let all : c.finish_claim.new.self.sessions ≡ sessions = c.finish_claim.ensures.sessions ∙ c.exchange.ensures.sessions in
    let shown : lists_view c.finish_claim.new.self ≡ view_of sessions between = ap (λ n. view_of n after) all ∙ unseen.view in
    let at = active_seat sessions seat before c.requires.stands.quiet c.requires.session c.requires.active in
    let none : owner_of (before.shared.objects c.args.oid).entry ≡ 0 = ap owner_of c.requires.free.entry_is ∙ c.requires.free.unowned in
    on_ok_to c.test_early.result (lists_view c.test_early.new.self ≡ lists_view c.finish_claim.new.self)
    (DidClaim (lists_view c.args.self.now) seat c.args.oid (lists_view c.test_early.new.self))
    (λ same.
    claim_done (lists_view c.args.self.now) (view_of sessions between) (lists_view c.test_early.new.self) seat c.args.oid c.exchange.ensures.exchanged.stamp c.exchange.ensures.exchanged.base
    c.requires.may (unowned sessions seat c.args.oid before c.requires.stands.sound.sound c.requires.stands.quiet none)
    (free_current sessions seat c.args.oid c.args.entry before c.requires.stands.sound.sound at.active c.requires.free) c.exchange.ensures.exchanged.shows (same ∙ shown))
    c.test_early.ensures.ok

pub returns-clause-err : goal.returns-clause-err
returns-clause-err g c =
    let sessions = c.args.self.now.sessions in
    let seat = c.args.seat in
    let before = core_of c.args.self.now.state in
    let between = core_of c.exchange.new.self.state in
    let after = core_of c.finish_claim.new.self.state in
    let unseen = subst (λ n. IsUnseen n seat between after) c.exchange.ensures.sessions (c.finish_claim.ensures.done c.if-not-finish_claim.false) in
    let all : c.finish_claim.new.self.sessions ≡ sessions = c.finish_claim.ensures.sessions ∙ c.exchange.ensures.sessions in
    let shown : lists_view c.finish_claim.new.self ≡ view_of sessions between = ap (λ n. view_of n after) all ∙ unseen.view in
    let at = active_seat sessions seat before c.requires.stands.quiet c.requires.session c.requires.active in
    let none : owner_of (before.shared.objects c.args.oid).entry ≡ 0 = ap owner_of c.requires.free.entry_is ∙ c.requires.free.unowned in
    err_to c.test_early.result (IsExcluded (lists_view c.finish_claim.new.self) seat (lists_view c.test_early.new.self))
    (λ why. DidNotClaim (lists_view c.args.self.now) seat c.args.oid why (lists_view c.test_early.new.self))
    (λ why did.
    claim_excluded (lists_view c.args.self.now) (view_of sessions between) (lists_view c.test_early.new.self) seat c.args.oid c.exchange.ensures.exchanged.stamp
    c.exchange.ensures.exchanged.base why c.requires.may (unowned sessions seat c.args.oid before c.requires.stands.sound.sound c.requires.stands.quiet none)
    (free_current sessions seat c.args.oid c.args.entry before c.requires.stands.sound.sound at.active c.requires.free)
    c.exchange.ensures.exchanged.shows (subst (λ v. IsExcluded v seat (lists_view c.test_early.new.self) why) shown did))
    c.test_early.ensures.err

pub returns-clause-cells : goal.returns-clause-cells
returns-clause-cells g c =
    err_to c.test_early.result (IsExcluded (lists_view c.finish_claim.new.self) c.args.seat (lists_view c.test_early.new.self)) (λ why. (drawn : ℕ) → why ≢ CellsFull drawn)
    (λ why did. excluded_cells (lists_view c.finish_claim.new.self) (lists_view c.test_early.new.self) c.args.seat why did) c.test_early.ensures.err

pub exchange-requires-clause-few : goal.exchange-requires-clause-few
exchange-requires-clause-few g c =
    let now = core_of c.args.self.now.state in
    let at = active_seat c.args.self.now.sessions c.args.seat now c.requires.stands.quiet c.requires.session c.requires.active in
    let count = claims_count c.args.self.now.sessions c.args.seat now (lists_view c.args.self.now) at refl in
    let few = c.requires.may.1 in
    omega (arith, count, few)
