-- Sessions handed out, and what a session stands at between two calls.
use Rattle.std.proofs.Common.{◌≡◌, ℕ, ◌+◌, Bool, true, List, [], Some, None, unwrap_or, refl, sym, ap, ◌∙◌, subst, eq-eqb}
use Rattle.std.specs.List.{slice_get}
use Rattle.std.specs.Prelude.{if◌then◌else◌}
use Rattle.erm_cells.specs.Spare.{SpareIs}
use Rattle.erm_machine.specs.declared.attempt.Claim.{Claim}
use Rattle.erm_machine.specs.declared.part.Part.{Part}
use Rattle.erm_machine.specs.declared.place.Place.TheVariants as place
use Rattle.erm_machine.specs.Core.{fresh_part}
use Rattle.erm_machine.specs.Facts.{Holds}
use Rattle.erm_machine.specs.Seat.{is_active, is_vacant}
use Rattle.erm_model.specs.declared.outcome.Phase.TheVariants as phase
use Rattle.erm_model.specs.Member.{◌∈◌}
use Rattle.erm_rows.specs.declared.active.Active.{Active}
use Rattle.erm_rule.specs.declared.view.Opening.{Opening}
use Rattle.erm_rule.specs.declared.view.View.{View}
use Rattle.erm_rule.specs.Rule.{rest_view, HandsOut}
use Rattle.erm_rule.specs.Views.{one_seat, part_of, right_of}
use Rattle.erm_rule.proofs.Telling.{held_part, part_of-changed}
use Rattle.erm_seats.specs.Calls.{begun_part, DidBegin}
use Rattle.erm_seats.specs.Race.{idle_part}
use Rattle.erm_session.specs.declared.session.Session.{Session}
use Rattle.erm_session.specs.declared.session.Stage.{Stage}
use Rattle.erm_session.specs.declared.session.Stage.TheVariants as stage
use Rattle.erm_session.specs.Opening.{StandsAt}
use Rattle.erm_session.specs.Session.{IsSession, StageIs, phase_of}

-- the part of the one seat of a view
one_part : (who : ℕ) (x : Part) → part_of (one_seat who x) who ≡ x
one_part who x = ap (λ (b : Bool). unwrap_or (if b then Some x else None) (fresh_part place.Vacant 0 0)) (eq-eqb who who refl)

-- a session is handed out
module _ (o : Opening) (given : ℕ) (out : HandsOut o given) (v : View) (is : v ≡ rest_view o given) where
  pub is_given : (u : View) → u ≡ right_of v → u ≡ one_seat (given + 1) (idle_part o)
  is_given u e = e ∙ ap right_of is ∙ out.right

-- an idle seat has an idle session
idle_stage : (s : Stage) (x : Part) → StageIs s x → x.place ≡ place.Idle → phase_of s ≡ phase.Idle
idle_stage stage.Idle x is e = refl
idle_stage (stage.Active t) x is e = absurd (let a = is.0 in cc)
idle_stage (stage.Sealed t) x is e = absurd (let a = is.0 in cc)
idle_stage (stage.Pending begin next) x is e = absurd (let a = is.0 in cc)
idle_stage (stage.Safe begin) x is e = absurd (let a = is.0 in cc)

-- a session just made, beside the view of its seat
pub stands_idle : (o : Opening) (who : ℕ) (s : Session) (v : View) → s.seat ≡ who → ((tail : ℕ) → IsSession s (fresh_part place.Idle o.run tail))
    → v ≡ one_seat who (idle_part o) → StandsAt s v phase.Idle
stands_idle o who s v seat made is =
    let part : part_of v s.seat ≡ idle_part o = ap (λ (u : View). part_of u s.seat) is ∙ ap (λ (q : ℕ). part_of (one_seat who (idle_part o)) q) seat ∙ one_part who (idle_part o) in
    (subst (λ (x : Part). IsSession s x) (sym part) (made o.tail), idle_stage s.stage (idle_part o) (made o.tail).kept.stage refl)

-- an idle session has an idle seat
idle_place : (s : Stage) (x : Part) → StageIs s x → phase_of s ≡ phase.Idle → x.place ≡ place.Idle
idle_place stage.Idle x is e = is
idle_place (stage.Active t) x is e = absurd (cc)
idle_place (stage.Sealed t) x is e = absurd (cc)
idle_place (stage.Pending begin next) x is e = absurd (cc)
idle_place (stage.Safe begin) x is e = absurd (cc)

-- a seat of an active session is active
active_place : (s : Stage) (t : Active) (x : Part) → s ≡ stage.Active t → StageIs s x → is_active x.place ≡ true
active_place stage.Idle t x e is = absurd (cc)
active_place (stage.Active u) t x e is = is.0
active_place (stage.Sealed u) t x e is = absurd (cc)
active_place (stage.Pending begin next) t x e is = absurd (cc)
active_place (stage.Safe begin) t x e is = absurd (cc)

none_in : (ws : List Claim) (w : Claim) → ws ≡ [] → w ∈ ws → ⊥
none_in ws w e at = let there = subst (λ (l : List Claim). slice_get l at.0 ≡ Some w) e at.1 in absurd (cc)

-- a transaction that has just begun
module _ (old : Session) (v w : View) (begin seat : ℕ) (at : StandsAt old v phase.Idle) (did : DidBegin v old.seat begin w) (same : seat ≡ old.seat) where
  abbrev x : Part
  x = part_of v old.seat

  x_idle : x.place ≡ place.Idle
  x_idle = idle_place old.stage x at.0.kept.stage at.1

  writes_none : (part_of w old.seat).current.writes ≡ []
  writes_none = ap (λ (z : Part). z.current.writes) (part_of-changed v old.seat w (begun_part old.seat did.announced begin x) x (held_part v old.seat (ap is_vacant x_idle)) did.view_is)

  -- it has claimed nothing
  pub begun_unclaimed : (oid : ℕ) → Holds (part_of w seat) oid → ⊥
  begun_unclaimed oid holds = none_in (part_of w seat).current.writes holds.0 (ap (λ (q : ℕ). (part_of w q).current.writes) same ∙ writes_none) holds.1

-- an active session, with its seat
module _ (s : Session) (v : View) (who : ℕ) (t : Active) (is : IsSession s (part_of v who)) (same : s.seat ≡ who) (at : s.stage ≡ stage.Active t) where
  pub seat_active : is_active (part_of v s.seat).place ≡ true
  seat_active = active_place s.stage t (part_of v s.seat) at (subst (λ (q : ℕ). StageIs s.stage (part_of v q)) (sym same) is.kept.stage)

  pub seat_spare : SpareIs s.spare (part_of v s.seat)
  seat_spare = subst (λ (q : ℕ). SpareIs s.spare (part_of v q)) (sym same) is.kept.spare
