-- The early test: where the exclusion window known so far is closed, its ends are of committed transactions.
use Rattle.std.proofs.Common.{◌≡◌, ℕ, ◌<◌, ◌≤◌, ⊎_elim, Bool, true, false, ◌&&◌, List, Option, Some, None, refl, sym, ap, ◌∙◌, subst, arith, ltb, leb}
use Rattle.std.specs.Prelude.{if◌then◌else◌}
use Rattle.std.proofs.lemmas.Bool.{ltb-true, leb-true}
use Rattle.std.proofs.lemmas.Option.{same_Some}
use Rattle.erm_machine.specs.declared.attempt.Attempt.{Attempt}
use Rattle.erm_machine.specs.declared.part.Part.{Part}
use Rattle.erm_machine.specs.declared.place.Place.{Place}
use Rattle.erm_machine.specs.declared.place.Place.TheVariants as place
use Rattle.erm_machine.specs.declared.task.Task.TheVariants as task
use Rattle.erm_machine.specs.declared.version.VersionAt.{VersionAt}
use Rattle.erm_machine.specs.Core.{Core}
use Rattle.erm_machine.specs.Decided.{history_of, MayCommit, RunningFits}
use Rattle.erm_machine.specs.Facts.{IsCurrent, IsUnsealed}
use Rattle.erm_machine.specs.Seat.{is_active}
use Rattle.erm_machine.specs.Sound.{Sound}
use Rattle.erm_rule.specs.declared.view.View.{View}
use Rattle.erm_rule.specs.Views.{part_of}
use Rattle.erm_rule.proofs.Telling.{changed_here, part_of-changed}
use Rattle.erm_cells.proofs.Heads.{has}
use Rattle.erm_readers.specs.Calls.{words_of}
use Rattle.erm_rows.specs.declared.active.Active.{Active}
use Rattle.erm_rows.specs.Active.{closed_window, IsActive}
use Rattle.erm_rows.specs.Reads.{read_part, DidExclude, DidRead, IsClosed}
use Rattle.erm_rows.specs.Took.{IsClosedIn}

unsealed : (pl : Place) (t : Attempt) → IsCurrent pl t → is_active pl ≡ true → IsUnsealed t
unsealed (place.Active tail) t is e = is
unsealed _ t is e = absurd (cc)

rated_commits : (pl : Place) (v : VersionAt) → is_active pl ≡ true → MayCommit pl (task.Rated v)
rated_commits (place.Active tail) v e = tt
rated_commits _ v e = absurd (cc)

-- the window is closed
pub record HasClosed (t : Active) (succ pred : ℕ) : Type 0 where
  pub positive : 0 < succ
  pub closed : succ ≤ pred
  pub succ_is : t.succ ≡ succ
  pub pred_is : t.pred ≡ pred

closed_if : (a b : Bool) (s p succ pred : ℕ) → ◌≡◌ {A = Option (ℕ × ℕ)} (Some (succ, pred)) (if a && b then Some (s, p) else None) → (a ≡ true) × (b ≡ true) × (succ ≡ s) × (pred ≡ p)
closed_if true true s p succ pred e =
    let asked : ℕ × ℕ = (succ, pred) in
    let known : ℕ × ℕ = (s, p) in
    let same : asked ≡ known = same_Some asked known e in
    (refl, refl, ap (λ (n : ℕ × ℕ). n.0) same, ap (λ (n : ℕ × ℕ). n.1) same)
closed_if true false s p succ pred e = absurd (cc)
closed_if false b s p succ pred e = absurd (cc)

pub has_closed : (t : Active) (succ pred : ℕ) → ◌≡◌ {A = Option (ℕ × ℕ)} (Some (succ, pred)) (closed_window t) → HasClosed t succ pred
has_closed t succ pred e =
    let is = closed_if (ltb 0 t.succ) (leb t.succ t.pred) t.succ t.pred succ pred e in
    record {
      positive = subst (λ (n : ℕ). 0 < n) (sym is.2) (ltb-true 0 t.succ is.0);
      closed = let low = leb-true t.succ t.pred is.1 in let a = is.2 in let b = is.3 in omega (arith, low, a, b);
      succ_is = sym is.2;
      pred_is = sym is.3;
    }

not_none : (n m : ℕ) → 0 < n → n ≡ m → m ≡ 0 → ⊥
not_none n m some is none = omega (arith, some, is, none)

module _ (c : Core) (who : ℕ) (sound : Sound c) (active : is_active (c.seats who).place ≡ true) (may : MayCommit (c.seats who).place (c.seats who).task) where
  abbrev own : Attempt
  own = (c.seats who).current

  open_now : IsUnsealed own
  open_now = unsealed (c.seats who).place own (sound.own who).ranges.current active

  running : RunningFits (history_of c.seats) c.shared.tail who (c.seats who)
  running = sound.common.decided.running who open_now.decision may

  pub is_closed : (succ pred : ℕ) → 0 < succ → succ ≤ pred → own.succ ≡ succ → own.pred ≡ pred → IsClosed c who succ pred
  is_closed succ pred positive closed succ_is pred_is = record {
    positive = positive;
    closed = closed;
    succ_is = succ_is;
    pred_is = pred_is;
    overwriter = ⊎_elim (λ none. absurd (not_none succ own.succ positive (sym succ_is) (none ∙ open_now.stamp)))
        (λ each. (each.0, each.1, each.3, sym succ_is ∙ each.4)) running.succ_attained;
    predecessor = ⊎_elim (λ none. absurd (not_none pred own.pred (omega (arith, positive, closed)) (sym pred_is) none))
        (λ each. (each.0, each.1, sym pred_is ∙ each.3, each.4)) running.pred_attained;
  }

module _ (v : View) (who oid : ℕ) (active : is_active (part_of v who).place ≡ true) (row : List ℕ) (w : View) (did : DidRead v who oid row w) where
  abbrev x : Part
  x = part_of v who

  abbrev y : Part
  y = read_part did.read (words_of did.known.core did.read.version) did.notes x

  there : did.known.core.seats who ≡ y
  there = did.known.is_view who y (changed_here v who w y x (has v who active) did.view_is)

  here : part_of w who ≡ y
  here = part_of-changed v who w y x (has v who active) did.view_is

  active_there : is_active (did.known.core.seats who).place ≡ true
  active_there = ap (λ (z : Part). is_active z.place) there ∙ active

  may_there : MayCommit (did.known.core.seats who).place (did.known.core.seats who).task
  may_there = subst (λ (z : Part). MayCommit z.place z.task) (sym there) (rated_commits x.place did.read.version active)

  did_exclude : (t : Active) → IsActive t (part_of w who) → (succ pred : ℕ) → 0 < succ → succ ≤ pred → t.succ ≡ succ → t.pred ≡ pred → DidExclude v who oid succ pred w
  did_exclude t is succ pred positive closed succ_is pred_is = record {
    row = row;
    read = did;
    window = is_closed did.known.core who did.known.sound active_there may_there succ pred positive closed
        (ap (λ (z : Part). z.current.succ) there ∙ sym (ap (λ (z : Part). z.current.succ) here) ∙ sym is.succ ∙ succ_is)
        (ap (λ (z : Part). z.current.pred) there ∙ sym (ap (λ (z : Part). z.current.pred) here) ∙ sym is.pred ∙ pred_is);
  }

  pub excludes : (t : Active) → IsActive t (part_of w who) → (succ pred : ℕ) → ◌≡◌ {A = Option (ℕ × ℕ)} (Some (succ, pred)) (closed_window t) → DidExclude v who oid succ pred w
  excludes t is succ pred e =
      let closed = has_closed t succ pred e in
      did_exclude t is succ pred closed.positive closed.closed closed.succ_is closed.pred_is

  -- and in every sound state with the view's parts
  pub closed_in : (t : Active) → IsActive t (part_of w who) → (succ pred : ℕ) → ◌≡◌ {A = Option (ℕ × ℕ)} (Some (succ, pred)) (closed_window t) → IsClosedIn w who succ pred
  closed_in t is succ pred e d sound sees =
      let closed = has_closed t succ pred e in
      let there : d.seats who ≡ y = sees who y (changed_here v who w y x (has v who active) did.view_is) in
      is_closed d who sound (ap (λ (z : Part). is_active z.place) there ∙ active) (subst (λ (z : Part). MayCommit z.place z.task) (sym there) (rated_commits x.place did.read.version active)) succ pred closed.positive closed.closed
      (ap (λ (z : Part). z.current.succ) there ∙ sym (ap (λ (z : Part). z.current.succ) here) ∙ sym is.succ ∙ closed.succ_is)
      (ap (λ (z : Part). z.current.pred) there ∙ sym (ap (λ (z : Part). z.current.pred) here) ∙ sym is.pred ∙ closed.pred_is)
