-- The early test after a claim: where the exclusion window known so far is closed, its ends are of committed transactions.
use Rattle.std.proofs.Common.{◌≡◌, ℕ, true, List, Option, Some, sym, ap, ◌∙◌, subst}
use Rattle.erm_machine.specs.declared.part.Part.{Part}
use Rattle.erm_machine.specs.declared.place.Place.{Place}
use Rattle.erm_machine.specs.declared.place.Place.TheVariants as place
use Rattle.erm_machine.specs.declared.task.Task.TheVariants as task
use Rattle.erm_machine.specs.Decided.{MayCommit}
use Rattle.erm_machine.specs.Reading.{new_claim}
use Rattle.erm_machine.specs.Seat.{is_active}
use Rattle.erm_rule.specs.declared.view.View.{View}
use Rattle.erm_rule.specs.Views.{part_of}
use Rattle.erm_rule.proofs.Telling.{changed_here, part_of-changed}
use Rattle.erm_cells.proofs.Heads.{has}
use Rattle.erm_rows.specs.declared.active.Active.{Active}
use Rattle.erm_rows.specs.Active.{closed_window, IsActive}
use Rattle.erm_rows.specs.Claims.{claimed_part, filled_claim, DidClaim, DidClaimExcluded}
use Rattle.erm_rows.proofs.Closed.{has_closed, is_closed}
use Rattle.erm_rows.specs.Took.{IsClosedIn}

rest_commits : (pl : Place) → is_active pl ≡ true → MayCommit pl task.Rest
rest_commits (place.Active tail) e = tt
rest_commits _ e = absurd (cc)

module _ (v : View) (who oid : ℕ) (active : is_active (part_of v who).place ≡ true) (row : List ℕ) (w : View) (did : DidClaim v who oid row w) where
  abbrev x : Part
  x = part_of v who

  abbrev y : Part
  y = claimed_part (filled_claim did.fill.own (new_claim did.took.version did.took.stamp did.took.base)) did.fill.spare did.cut.found.tail did.filled.readers x

  there : did.known.core.seats who ≡ y
  there = did.known.is_view who y (changed_here v who w y x (has v who active) did.view_is)

  here : part_of w who ≡ y
  here = part_of-changed v who w y x (has v who active) did.view_is

  active_there : is_active (did.known.core.seats who).place ≡ true
  active_there = ap (λ (z : Part). is_active z.place) there ∙ active

  may_there : MayCommit (did.known.core.seats who).place (did.known.core.seats who).task
  may_there = subst (λ (z : Part). MayCommit z.place z.task) (sym there) (rest_commits x.place active)

  pub excludes : (t : Active) → IsActive t (part_of w who) → (succ pred : ℕ) → ◌≡◌ {A = Option (ℕ × ℕ)} (Some (succ, pred)) (closed_window t) → DidClaimExcluded v who oid succ pred w
  excludes t is succ pred e =
      let closed = has_closed t succ pred e in
      record {
        row = row;
        claim = did;
        window = is_closed did.known.core who did.known.sound active_there may_there succ pred closed.positive closed.closed
            (ap (λ (z : Part). z.current.succ) there ∙ sym (ap (λ (z : Part). z.current.succ) here) ∙ sym is.succ ∙ closed.succ_is)
            (ap (λ (z : Part). z.current.pred) there ∙ sym (ap (λ (z : Part). z.current.pred) here) ∙ sym is.pred ∙ closed.pred_is);
      }

  -- and in every sound state with the view's parts
  pub closed_in : (t : Active) → IsActive t (part_of w who) → (succ pred : ℕ) → ◌≡◌ {A = Option (ℕ × ℕ)} (Some (succ, pred)) (closed_window t) → IsClosedIn w who succ pred
  closed_in t is succ pred e d sound sees =
      let closed = has_closed t succ pred e in
      let there : d.seats who ≡ y = sees who y (changed_here v who w y x (has v who active) did.view_is) in
      is_closed d who sound (ap (λ (z : Part). is_active z.place) there ∙ active) (subst (λ (z : Part). MayCommit z.place z.task) (sym there) (rest_commits x.place active)) succ pred closed.positive closed.closed
      (ap (λ (z : Part). z.current.succ) there ∙ sym (ap (λ (z : Part). z.current.succ) here) ∙ sym is.succ ∙ closed.succ_is)
      (ap (λ (z : Part). z.current.pred) there ∙ sym (ap (λ (z : Part). z.current.pred) here) ∙ sym is.pred ∙ closed.pred_is)
