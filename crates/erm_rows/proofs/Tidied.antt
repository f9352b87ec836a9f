-- The chain of an object that the transaction has claimed: the seat owns the entry, and the transaction rests after the cut.
use Rattle.std.proofs.Common.{◌≡◌, ◌≢◌, ℕ, ◌-◌, ◌<◌, Bool, true, false, ◌&&◌, List, length, Option, Some, None, is_none, refl, sym, ap, ◌∙◌, subst, eqb, ltb, leb, arith}
use Rattle.std.specs.Prelude.{if◌then◌else◌}
use Rattle.std.proofs.lemmas.Bool.{eq-eqb, ltb-true, ne_eqb}
use Rattle.erm_model.proofs.Members.{∈-at}
use Rattle.erm_machine.specs.declared.attempt.OwnCell.{OwnCell}
use Rattle.erm_machine.specs.declared.limits.TheConstants.{SESSIONS}
use Rattle.erm_machine.specs.declared.part.Part.{Part}
use Rattle.erm_machine.specs.declared.place.Place.{Place}
use Rattle.erm_machine.specs.declared.place.Place.TheVariants as place
use Rattle.erm_machine.specs.declared.task.Task.{Task}
use Rattle.erm_machine.specs.declared.task.Task.TheVariants as task
use Rattle.erm_machine.specs.declared.version.VersionAt.{VersionAt}
use Rattle.erm_machine.specs.Claims.{OwnClaims, claims_over}
use Rattle.erm_machine.specs.Core.{Object, claim_at, no_claim}
use Rattle.erm_machine.specs.Facts.{Holds, over_of}
use Rattle.erm_machine.specs.Reading.{after_cut, entered, head_version}
use Rattle.erm_machine.specs.Seat.{is_active, is_own, last_claim, with_task}
use Rattle.erm_machine.specs.Words.{head_of, is_session, owner_of}
use Rattle.erm_rule.specs.declared.view.View.{View}
use Rattle.erm_rule.specs.Views.{part_of, with_part}
use Rattle.erm_rule.proofs.Parts.{with_part-again}
use Rattle.erm_rule.proofs.Telling.{changed_here, part_of-changed}
use Rattle.erm_cells.specs.Calls.{DidEnter}
use Rattle.erm_cells.specs.Spare.{SpareIs}
use Rattle.erm_cells.proofs.Heads.{has}
use Rattle.erm_cells.proofs.Views.{choose, refuse}
use Rattle.erm_entries.proofs.Owners.{owner_is}
use Rattle.erm_rows.specs.declared.active.Active.{Active}
use Rattle.erm_rows.specs.Active.{IsActive}
use Rattle.erm_rows.specs.Claims.{tidied_part, DidCutChain, IsClaimedHead}
use Rattle.erm_rows.specs.Tidies.{DidTidy, HasClaim}

first : (a b : Bool) → (a && b) ≡ true → a ≡ true
first true b e = refl
first false b e = absurd (cc)

session_some : (who : ℕ) → is_session who ≡ true → 0 < who
session_some who e = ltb-true 0 who (first (ltb 0 who) (leb who SESSIONS) e)

claimed_entered : (who oid entry : ℕ) (o : Object) → owner_of entry ≡ who → who ≢ 0 → entered who oid entry o ≡ task.Claimed (head_version oid entry o)
claimed_entered who oid entry o is some =
    ap (λ (n : ℕ). if eqb n 0 then task.Walks (head_version oid entry o) (Some entry) else (if eqb n who then task.Claimed (head_version oid entry o) else task.Owned oid n)) is
    ∙ refuse (eqb who 0) (task.Walks (head_version oid entry o) (Some entry)) (if eqb who who then task.Claimed (head_version oid entry o) else task.Owned oid who) (ne_eqb _ _ some)
    ∙ choose (eqb who who) (task.Claimed (head_version oid entry o)) (task.Owned oid who) (eq-eqb _ _ refl)

-- no claim is over
none_over : (p : Place) (b c : Bool) (v u : VersionAt) (head : Option ℕ) (oid owner writes : ℕ) → is_active p ≡ true
    → over_of p (if b then task.Walks v head else (if c then task.Claimed u else task.Owned oid owner)) writes ≡ 0
none_over (place.Active tail) true c v u head oid owner writes e = refl
none_over (place.Active tail) false true v u head oid owner writes e = refl
none_over (place.Active tail) false false v u head oid owner writes e = refl
none_over _ b c v u head oid owner writes e = absurd (cc)

has_own : (cell : ℕ) (o : Option OwnCell) → is_own cell o ≡ true → is_none o ≡ false
has_own cell None e = absurd (cc)
has_own cell (Some own) e = refl

last_within : (k n : ℕ) → k < n → n - 1 < n
last_within k n within = omega (arith, within)

-- each claim has its cell, and so the call is done with its cut
pub rests : (t : Active) (x : Part) → IsActive t x → (oid : ℕ) → HasClaim x oid → after_cut x ≡ task.Rest
rests t x is oid claimed =
    refuse (is_none (claim_at x.current (last_claim x.current)).own) task.Draws task.Rest (has_own _ _ (is.claims (last_claim x.current) (last_within claimed.0 (length x.current.writes) claimed.1)).own)

module _ (v : View) (who oid : ℕ) (active : is_active (part_of v who).place ≡ true) (session : is_session who ≡ true) (claimed : HasClaim (part_of v who) oid) (entry : ℕ) (w : View) (did : DidEnter v who oid entry w) where
  abbrev x : Part
  x = part_of v who

  abbrev y : Part
  y = with_task (entered who oid entry did.object) x

  here : part_of w who ≡ y
  here = part_of-changed v who w y x (has v who active) did.view_is

  there : did.known.core.seats who ≡ y
  there = did.known.is_view who y (changed_here v who w y x (has v who active) did.view_is)

  holds : Holds (did.known.core.seats who) oid
  holds =
      let own : OwnClaims did.known.core.shared who y = subst (λ (z : Part). OwnClaims did.known.core.shared who z) there (did.known.sound.own who).claims in
      let none : claims_over y ≡ 0 = none_over x.place (eqb (owner_of entry) 0) (eqb (owner_of entry) who) (head_version oid entry did.object) (head_version oid entry did.object) (Some entry) oid (owner_of entry) (length x.current.writes) active in
      subst (λ (z : Part). Holds z oid) (sym there)
      (claim_at x.current claimed.0, ∈-at x.current.writes claimed.0 no_claim claimed.1, own.held claimed.0 claimed.1 (omega (arith, none)), claimed.2)

  pub owner_own : owner_of entry ≡ who
  owner_own = ap owner_of (sym did.met) ∙ owner_is did.known.core who oid did.known.sound holds

  pub active_entered : is_active (part_of w who).place ≡ true
  active_entered = ap (λ (z : Part). is_active z.place) here ∙ active

  pub head_entered : (head : ℕ) → head_of entry ≡ head → IsClaimedHead (part_of w who).task head
  head_entered head is =
      let some : who ≢ 0 = (λ none. let low = session_some who session in omega (arith, low, none)) in
      subst (λ (z : Part). IsClaimedHead z.task head) (sym here) (subst (λ (t : Task). IsClaimedHead t head) (sym (claimed_entered who oid entry did.object owner_own some)) is)

  pub spare_entered : (cells : List ℕ) → SpareIs cells x → SpareIs cells (part_of w who)
  spare_entered cells is = subst (λ (z : Part). SpareIs cells z) (sym here) is

  pub did_tidy : (t : Active) → IsActive t x → (count : ℕ) (u : View) → DidCutChain w who count u → DidTidy v who count u
  did_tidy t is count u done = record {
    entered = w;
    cut = done;
    view_is =
        done.view_is
        ∙ ap (λ (z : Part). with_part who (tidied_part done.found.tail done.done.cut z) w) here
        ∙ ap (λ (r : View). with_part who (tidied_part done.found.tail done.done.cut y) r) did.view_is
        ∙ with_part-again who y (tidied_part done.found.tail done.done.cut y) v;
    rests = rests t x is oid claimed;
    known = done.known;
  }
