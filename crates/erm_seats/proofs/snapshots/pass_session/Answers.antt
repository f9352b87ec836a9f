use Rattle.std.proofs.Common.{◌≤◌, ℕ, refl, subst, sym, ap, ◌∙◌}
use Rattle.std.specs.Prelude.{◌<◌}
use Rattle.erm_rule.proofs.Courses.{goes_step, seen_after, seen_once}
use Rattle.erm_rule.proofs.Wents.{went_none, went_one, went_step}
use Rattle.erm_seats.specs.Safe.{sees_late}
use Rattle.erm_seats.proofs.Raising.{session_seat}
use Rattle.erm_seats.proofs.Surveying.{back_held, back_passed, back_ready, behind, own_passed, survey_held, survey_ready, took_unsafe, took_wait, unsafe_by, waits_for}
use Rattle.erm_seats.proofs.snapshots.pass_session.Goals as goal

pub load_begin-seen-requires-clause-held : goal.load_begin-seen-requires-clause-held
load_begin-seen-requires-clause-held g c = survey_held c.args.p.now.me.0.view c.args.who c.args.seat c.requires.active c.requires.surveys

pub load_begin-seen-requires-clause-seat : goal.load_begin-seen-requires-clause-seat
load_begin-seen-requires-clause-seat g c = session_seat c.args.seat c.requires.session

pub load_begin-seen-requires-clause-ready : goal.load_begin-seen-requires-clause-ready
load_begin-seen-requires-clause-ready g c = survey_ready c.args.p.now.me.0.view c.args.who c.args.seat c.requires.active c.requires.surveys

-- the own session
pub returns-then-seat-who-clause-passed : goal.returns-then-seat-who-clause-passed
returns-then-seat-who-clause-passed g c =
    own_passed c.args.p.now.me.0.view c.args.who c.args.seat c.requires.active c.requires.surveys c.load_begin-seen.result _ c.load_begin-seen.ensures.told.told c.if-seat-who.true

pub returns-then-seat-who-clause-loads : goal.returns-then-seat-who-clause-loads
returns-then-seat-who-clause-loads g c = went_one _ _ _ _ _ _ _ tt c.load_begin-seen.ensures.booked

-- its begin word stands below the begin stamp
pub returns-then-not-is_late-clause-stopped : goal.returns-then-not-is_late-clause-stopped
returns-then-not-is_late-clause-stopped g c =
    waits_for c.args.p.now.me.0.view c.args.who c.args.seat c.requires.active c.requires.surveys c.load_begin-seen.result _ c.load_begin-seen.ensures.told.told c.if-seat-who.false
    (ap (λ (n : ℕ). sees_late n c.load_begin-seen.result) c.requires.begin ∙ sym c.is_late.ensures ∙ c.if-not-is_late.true) c.requires.session

pub returns-then-not-is_late-clause-met : goal.returns-then-not-is_late-clause-met
returns-then-not-is_late-clause-met g c = seen_once _ c.args.p.now.me.0 _ _ _ _ _ c.load_begin-seen.ensures.booked (λ core is met. met)

pub returns-then-not-is_late-clause-loads : goal.returns-then-not-is_late-clause-loads
returns-then-not-is_late-clause-loads g c = went_one _ _ _ _ _ _ _ tt c.load_begin-seen.ensures.booked

pub returns-then-not-is_late-clause-took_none : goal.returns-then-not-is_late-clause-took_none
returns-then-not-is_late-clause-took_none g c =
    took_wait c.args.p.now.me.0.view c.args.who c.args.seat c.requires.active c.requires.surveys c.load_begin-seen.result _ c.load_begin-seen.ensures.told.told c.if-seat-who.false
    (ap (λ (n : ℕ). sees_late n c.load_begin-seen.result) c.requires.begin ∙ sym c.is_late.ensures ∙ c.if-not-is_late.true) g.L.RowLaw.law c.args.p.now.me.0 c.load_begin-seen.new.p.me.0 refl (went_none _ _ _ _)
    c.load_begin-seen.ensures.booked

-- its back word
pub load_back-stamp-requires-clause-held : goal.load_back-stamp-requires-clause-held
load_back-stamp-requires-clause-held g c =
    back_held c.args.p.now.me.0.view c.args.who c.args.seat c.requires.active c.requires.surveys _
    (behind c.args.p.now.me.0.view c.args.who c.args.seat c.requires.active c.requires.surveys c.load_begin-seen.result _ c.load_begin-seen.ensures.told.told c.if-seat-who.false
    (ap (λ (n : ℕ). sees_late n c.load_begin-seen.result) c.requires.begin ∙ sym c.is_late.ensures ∙ c.if-not-is_late.false))

pub load_back-stamp-requires-clause-ready : goal.load_back-stamp-requires-clause-ready
load_back-stamp-requires-clause-ready g c =
    back_ready c.args.p.now.me.0.view c.args.who c.args.seat c.requires.active c.requires.surveys _
    (behind c.args.p.now.me.0.view c.args.who c.args.seat c.requires.active c.requires.surveys c.load_begin-seen.result _ c.load_begin-seen.ensures.told.told c.if-seat-who.false
    (ap (λ (n : ℕ). sees_late n c.load_begin-seen.result) c.requires.begin ∙ sym c.is_late.ensures ∙ c.if-not-is_late.false))

pub returns-then-stamp-begin-clause-passed : goal.returns-then-stamp-begin-clause-passed
returns-then-stamp-begin-clause-passed g c =
    back_passed c.args.p.now.me.0.view c.args.who c.args.seat c.requires.active c.requires.surveys _
    (behind c.args.p.now.me.0.view c.args.who c.args.seat c.requires.active c.requires.surveys c.load_begin-seen.result _ c.load_begin-seen.ensures.told.told c.if-seat-who.false
    (ap (λ (n : ℕ). sees_late n c.load_begin-seen.result) c.requires.begin ∙ sym c.is_late.ensures ∙ c.if-not-is_late.false))
    c.load_back-stamp.result _ c.load_back-stamp.ensures.told.told (subst (λ (n : ℕ). c.load_back-stamp.result < n) (sym c.requires.begin) c.if-stamp-begin.true)

pub returns-then-stamp-begin-clause-loads : goal.returns-then-stamp-begin-clause-loads
returns-then-stamp-begin-clause-loads g c = went_step _ _ _ _ _ _ _ _ (went_one _ _ _ _ _ _ _ tt c.load_begin-seen.ensures.booked) tt c.load_back-stamp.ensures.booked

pub returns-else-stamp-begin-clause-stopped : goal.returns-else-stamp-begin-clause-stopped
returns-else-stamp-begin-clause-stopped g c =
    unsafe_by c.args.p.now.me.0.view c.args.who c.args.seat c.requires.active c.requires.surveys _
    (behind c.args.p.now.me.0.view c.args.who c.args.seat c.requires.active c.requires.surveys c.load_begin-seen.result _ c.load_begin-seen.ensures.told.told c.if-seat-who.false
    (ap (λ (n : ℕ). sees_late n c.load_begin-seen.result) c.requires.begin ∙ sym c.is_late.ensures ∙ c.if-not-is_late.false))
    c.load_back-stamp.result _ c.load_back-stamp.ensures.told.told c.requires.session c.if-seat-who.false (subst (λ (n : ℕ). n ≤ c.load_back-stamp.result) (sym c.requires.begin) c.if-stamp-begin.false)

pub returns-else-stamp-begin-clause-met : goal.returns-else-stamp-begin-clause-met
returns-else-stamp-begin-clause-met g c =
    seen_after c.args.p.now.me.0 c.load_begin-seen.new.p.me.0 _ c.load_back-stamp.new.p.me.0 (goes_step _ c.args.p.now.me.0 _ _ _ _ c.load_begin-seen.ensures.booked)
    (seen_once _ c.load_begin-seen.new.p.me.0 _ _ _ _ _ c.load_back-stamp.ensures.booked (λ core is met. met))

pub returns-else-stamp-begin-clause-loads : goal.returns-else-stamp-begin-clause-loads
returns-else-stamp-begin-clause-loads g c = went_step _ _ _ _ _ _ _ _ (went_one _ _ _ _ _ _ _ tt c.load_begin-seen.ensures.booked) tt c.load_back-stamp.ensures.booked

pub returns-else-stamp-begin-clause-took_none : goal.returns-else-stamp-begin-clause-took_none
returns-else-stamp-begin-clause-took_none g c =
    took_unsafe c.args.p.now.me.0.view c.args.who c.args.seat c.requires.active c.requires.surveys _
    (behind c.args.p.now.me.0.view c.args.who c.args.seat c.requires.active c.requires.surveys c.load_begin-seen.result _ c.load_begin-seen.ensures.told.told c.if-seat-who.false
    (ap (λ (n : ℕ). sees_late n c.load_begin-seen.result) c.requires.begin ∙ sym c.is_late.ensures ∙ c.if-not-is_late.false))
    g.L.RowLaw.law c.args.p.now.me.0 c.load_begin-seen.new.p.me.0 c.load_back-stamp.new.p.me.0 c.load_back-stamp.result refl
    (subst (λ (n : ℕ). n ≤ c.load_back-stamp.result) (sym c.requires.begin) c.if-stamp-begin.false) (went_one _ _ _ _ _ _ _ tt c.load_begin-seen.ensures.booked) c.load_back-stamp.ensures.booked
