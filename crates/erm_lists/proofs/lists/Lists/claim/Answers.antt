use Rattle.erm_model.specs.declared.history.VersionWritten.{VersionWritten}
use Rattle.std.proofs.Common.{◌≡◌, ◌≤◌, List, IfErr, OnOk, false, length, ap, ◌∙◌, sym, subst, refl, arith}
use Rattle.erm_model.specs.declared.outcome.Phase.TheVariants as phase
use Rattle.erm_machine.specs.declared.limits.TheConstants.{WRITE_LIMIT}
use Rattle.erm_core.specs.Cores.{core_of}
use Rattle.erm_world.specs.Calls.{DidClaim, DidNotClaim, MayClaim, before}
use Rattle.erm_world.specs.World.{IsSession, View, phase_at, work_at}
use Rattle.erm_world.specs.Works.{is_claimed}
use Rattle.erm_lists.specs.Stands.{lists_view}
use Rattle.erm_core_steps.proofs.Exchanges.{claims_count, claims_shown}
use Rattle.erm_core_steps.proofs.Quiet.{active_seat}
use Rattle.erm_core_steps.proofs.Readings.{where_ok_too}
use Rattle.erm_lists.proofs.lists.Lists.claim.Goals as goal

pub has_claimed-requires : goal.has_claimed-requires
has_claimed-requires g c =
    let at = active_seat c.args.self.now.sessions c.args.seat (core_of c.args.self.now.state) c.requires.stands.quiet c.requires.session c.requires.active in
    record { session = at.session }

pub returns-then-has_claimed-clause-ok : goal.returns-then-has_claimed-clause-ok
returns-then-has_claimed-clause-ok g c =
    let now = core_of c.args.self.now.state in
    let at = active_seat c.args.self.now.sessions c.args.seat now c.requires.stands.quiet c.requires.session c.requires.active in
    let shown = claims_shown c.args.self.now.sessions c.args.seat now (lists_view c.args.self.now) at refl in
    before refl (ap (λ (cs : List VersionWritten). is_claimed cs c.args.oid) shown ∙ sym c.has_claimed.ensures ∙ c.if-has_claimed.true)

pub returns-then-not-has_room-clause-err : goal.returns-then-not-has_room-clause-err
returns-then-not-has_room-clause-err g c =
    let now = core_of c.args.self.now.state in
    let at = active_seat c.args.self.now.sessions c.args.seat now c.requires.stands.quiet c.requires.session c.requires.active in
    let shown = claims_shown c.args.self.now.sessions c.args.seat now (lists_view c.args.self.now) at refl in
    (c.has_room.ensures.view, ap (λ (cs : List VersionWritten). is_claimed cs c.args.oid) shown ∙ sym c.has_claimed.ensures ∙ c.if-has_claimed.false)

pub claims-requires : goal.claims-requires
claims-requires g c =
    let session = subst (λ (v : View). IsSession v c.args.seat) (sym c.has_room.ensures.view) c.requires.session in
    let active = subst (λ (v : View). phase_at v c.args.seat ≡ phase.Active) (sym c.has_room.ensures.view) c.requires.active in
    let at = active_seat c.has_room.new.self.sessions c.args.seat (core_of c.has_room.new.self.state) c.has_room.ensures.stands.quiet session active in
    record { session = at.session }

pub returns-then-claims-ge-WRITE_LIMIT-clause-err : goal.returns-then-claims-ge-WRITE_LIMIT-clause-err
returns-then-claims-ge-WRITE_LIMIT-clause-err g c =
    let before_it = core_of c.args.self.now.state in
    let at_first = active_seat c.args.self.now.sessions c.args.seat before_it c.requires.stands.quiet c.requires.session c.requires.active in
    let unclaimed : is_claimed (work_at (lists_view c.args.self.now) c.args.seat).claims c.args.oid ≡ false =
    ap (λ (cs : List VersionWritten). is_claimed cs c.args.oid) (claims_shown c.args.self.now.sessions c.args.seat before_it (lists_view c.args.self.now) at_first refl) ∙ sym c.has_claimed.ensures ∙ c.if-has_claimed.false
    in
    let session = subst (λ (v : View). IsSession v c.args.seat) (sym c.has_room.ensures.view) c.requires.session in
    let active = subst (λ (v : View). phase_at v c.args.seat ≡ phase.Active) (sym c.has_room.ensures.view) c.requires.active in
    let now = core_of c.has_room.new.self.state in
    let at = active_seat c.has_room.new.self.sessions c.args.seat now c.has_room.ensures.stands.quiet session active in
    let count = claims_count c.has_room.new.self.sessions c.args.seat now (lists_view c.args.self.now) at c.has_room.ensures.view in
    let most : length (now.seats c.args.seat).current.writes ≤ WRITE_LIMIT = (c.has_room.ensures.stands.sound.sound.own c.args.seat).ranges.few in
    let many = c.if-claims-ge-WRITE_LIMIT.true in
    let all = c.claims.ensures in
    (c.has_room.ensures.view, unclaimed, omega (arith, count, most, many, all))

pub claim_entry-requires-clause-session : goal.claim_entry-requires-clause-session
claim_entry-requires-clause-session g c = subst (λ (v : View). IsSession v c.args.seat) (sym c.has_room.ensures.view) c.requires.session

pub claim_entry-requires-clause-active : goal.claim_entry-requires-clause-active
claim_entry-requires-clause-active g c = subst (λ (v : View). phase_at v c.args.seat ≡ phase.Active) (sym c.has_room.ensures.view) c.requires.active

pub claim_entry-requires-clause-may : goal.claim_entry-requires-clause-may
claim_entry-requires-clause-may g c =
    let before_it = core_of c.args.self.now.state in
    let at_first = active_seat c.args.self.now.sessions c.args.seat before_it c.requires.stands.quiet c.requires.session c.requires.active in
    let unclaimed : is_claimed (work_at (lists_view c.args.self.now) c.args.seat).claims c.args.oid ≡ false =
    ap (λ (cs : List VersionWritten). is_claimed cs c.args.oid) (claims_shown c.args.self.now.sessions c.args.seat before_it (lists_view c.args.self.now) at_first refl) ∙ sym c.has_claimed.ensures ∙ c.if-has_claimed.false
    in
    let session = subst (λ (v : View). IsSession v c.args.seat) (sym c.has_room.ensures.view) c.requires.session in
    let active = subst (λ (v : View). phase_at v c.args.seat ≡ phase.Active) (sym c.has_room.ensures.view) c.requires.active in
    let now = core_of c.has_room.new.self.state in
    let at = active_seat c.has_room.new.self.sessions c.args.seat now c.has_room.ensures.stands.quiet session active in
    let count = claims_count c.has_room.new.self.sessions c.args.seat now (lists_view c.args.self.now) at c.has_room.ensures.view in
    let few = c.if-claims-ge-WRITE_LIMIT.false in
    let all = c.claims.ensures in
    subst (λ (v : View). MayClaim (work_at v c.args.seat) c.args.oid) (sym c.has_room.ensures.view) (unclaimed, omega (arith, count, few, all))

pub claim_entry-requires-clause-room : goal.claim_entry-requires-clause-room
claim_entry-requires-clause-room g c = c.has_room.ensures.room c.if-not-has_room.false

pub returns-clause-ok : goal.returns-clause-ok
returns-clause-ok g c =
    subst (λ (v : View). OnOk c.claim_entry.result (DidClaim v c.args.seat c.args.oid (lists_view c.claim_entry.new.self))) c.has_room.ensures.view c.claim_entry.ensures.ok

pub returns-clause-err : goal.returns-clause-err
returns-clause-err g c =
    subst (λ (v : View). IfErr c.claim_entry.result (λ why. DidNotClaim v c.args.seat c.args.oid why (lists_view c.claim_entry.new.self))) c.has_room.ensures.view c.claim_entry.ensures.err

pub returns-clause-open_still : goal.returns-clause-open_still
returns-clause-open_still g c = where_ok_too _ _ c.claim_entry.result c.claim_entry.ensures.open_still

pub returns-then-has_claimed-clause-open_still : goal.returns-then-has_claimed-clause-open_still
returns-then-has_claimed-clause-open_still g c = λ unclaimed.
    let now = core_of c.args.self.now.state in
    let at = active_seat c.args.self.now.sessions c.args.seat now c.requires.stands.quiet c.requires.session c.requires.active in
    let shown = claims_shown c.args.self.now.sessions c.args.seat now (lists_view c.args.self.now) at refl in
    let claimed = ap (λ (cs : List VersionWritten). is_claimed cs c.args.oid) shown ∙ sym c.has_claimed.ensures ∙ c.if-has_claimed.true in
    absurd (cc)
