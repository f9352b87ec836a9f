-- The last step of a snapshot's begin: the begin word is raised to the begin stamp.
use Rattle.std.proofs.Common.{◌≡◌, ℕ, ◌<◌, ◌≤◌, Bool, true, false, ◌&&◌, ◌||◌, eqb, Option, Some, is_some, refl, sym, ap, ◌∙◌, arith, eq-eqb}
use Rattle.std.specs.Prelude.{if◌then◌else◌, IsSome}
use Rattle.std.proofs.lemmas.Bool.{ne_eqb}
use Rattle.std.proofs.lemmas.Option.{same_Some}
use Rattle.erm_machine.specs.declared.event.Kind.TheVariants as kind
use Rattle.erm_machine.specs.declared.part.Part.{Part}
use Rattle.erm_machine.specs.declared.place.Place.TheVariants.{Idle}
use Rattle.erm_machine.specs.Life.{store_begin}
use Rattle.erm_machine.specs.Seat.{is_vacant, when}
use Rattle.erm_machine.specs.Words.{is_flusher, is_seat, is_session}
use Rattle.erm_rule.specs.declared.view.View.{View}
use Rattle.erm_rule.specs.Steps.{Ready, Told}
use Rattle.erm_rule.specs.Views.{part_in, part_of}
use Rattle.erm_rule.proofs.Numbered.{known_after}
use Rattle.erm_rule.proofs.Telling.{changed_here, held_part, is_held, ready_by, told_after}
use Rattle.erm_seats.specs.Calls.{begun_part, DidBegin}
use Rattle.erm_seats.specs.Safe.{pending_part, DidBeginSafe}

-- a session has words
pub session_seat : (who : ℕ) → is_session who ≡ true → is_seat who ≡ true
session_seat who e = ap (λ b. b || is_flusher who) e

pub when_true : (b : Bool) (z : Part) → b ≡ true → when b z ≡ Some z
when_true true z e = refl
when_true false z e = absurd (cc)

pub both : (a b : Bool) → a ≡ true → b ≡ true → (a && b) ≡ true
both a b e f = cc

-- a begin stamp isn't 0
positive : (announced begin : ℕ) → 0 < announced → announced ≤ begin → begin ≡ 0 → ⊥
positive announced begin some most none = omega (arith, some, most, none)

some_begin : (announced begin : ℕ) → 0 < announced → announced ≤ begin → 0 < begin
some_begin announced begin some most = omega (arith, some, most)

unzero : (b : Bool) (l r o : Option Part) → b ≡ false → r ≡ o → (if b then l else r) ≡ o
unzero true l r o e f = absurd (cc)
unzero false l r o e f = f

module _ (v : View) (who : ℕ) (session : is_session who ≡ true) (idle : (part_of v who).place ≡ Idle) (begin : ℕ) (u : View) (did : DidBegin v who begin u) where
  abbrev x : Part
  x = part_of v who

  abbrev a : Part
  a = begun_part who did.announced begin x

  abbrev y : Part
  y = pending_part who begin x

  has : part_in v who ≡ Some x
  has = held_part v who (ap is_vacant idle)

  has_begun : part_in u who ≡ Some a
  has_begun = changed_here v who u a x has did.view_is

  pub raise_held : IsSome (part_in u who)
  raise_held = is_held u who a has_begun

  -- a transaction that has begun has done nothing yet
  raised : store_begin who begin a a.place ≡ Some y
  raised =
      unzero (eqb begin 0) _ _ (Some y) (ne_eqb begin 0 (positive did.announced begin did.positive did.at_least))
      (when_true _ y (both _ true (both _ true (both (is_session who) (eqb begin begin) session (eq-eqb begin begin refl)) refl) refl))

  pub raise_ready : Ready u who (kind.StoreBegin begin)
  raise_ready = ready_by u who (kind.StoreBegin begin) a has_begun (λ c sound is. ap (λ (o : Option Part). is_some o) raised)

  pub did_begin_safe : (found : ℕ) (w : View) → Told u who (kind.StoreBegin begin) found w → DidBeginSafe v who begin w
  did_begin_safe found w told = record {
    positive = some_begin did.announced begin did.positive did.at_least;
    view_is = told_after v who (kind.StoreBegin begin) found u w a x y has did.view_is told (λ s z e. same_Some z y (sym e ∙ raised));
    above = did.above;
    past = did.past;
    known = known_after u who (kind.StoreBegin begin) found w told;
  }
