-- How far a call may have come: what a step has to show where it leaves the seat at its place.
use Rattle.std.proofs.Common.{◌≡◌, ℕ, ◌<◌, Bool, true, false, ◌&&◌, eqb, List, length, refl, sym, ap, ◌∙◌, subst, arith}
use Rattle.std.specs.Prelude.{if◌then◌else◌}
use Rattle.std.proofs.lemmas.Bool.{and_parts, eqb-false}
use Rattle.erm_machine.specs.declared.attempt.Attempt.{Attempt}
use Rattle.erm_machine.specs.declared.attempt.OwnCell.{OwnCell}
use Rattle.erm_machine.specs.declared.part.Part.{Part}
use Rattle.erm_machine.specs.declared.place.Place.{Place}
use Rattle.erm_machine.specs.declared.place.Place.TheVariants.{Active, Sealed, Decided, Leaving}
use Rattle.erm_machine.specs.declared.task.Task.{Task}
use Rattle.erm_machine.specs.declared.task.Task.TheVariants as task
use Rattle.erm_machine.specs.Bounds.{IsBounded, words_stored, OwnBounds}
use Rattle.erm_machine.specs.Seat.{is_active, is_sealed}
use Rattle.erm_machine.specs.Tasks.{TaskFits, OwnTask}
use Rattle.erm_machine.proofs.Guards.{either_way}

-- the first part of a test, and the rest
pub first : (a b : Bool) → (a && b) ≡ true → a ≡ true
first a b h = (and_parts a b h).0

pub second : (a b : Bool) → (a && b) ≡ true → b ≡ true
second a b h = (and_parts a b h).1

-- a number that isn't 0
pub positive_of : (n : ℕ) → eqb n 0 ≡ false → 0 < n
positive_of n e = let ne = eqb-false n 0 e in grind arith

-- the header of the block isn't stored yet; and no word behind it
abbrev pub Early : Place → Type 0
Early (Decided tail stamp) = ⊥
Early (Leaving stamp) = ⊥
Early _ = Unit {0}

abbrev pub FillsNone : Task → Type 0
FillsNone (task.Fills words) = ⊥
FillsNone _ = Unit {0}

pub none_stored : (pl : Place) (u : Task) (size : ℕ) → Early pl → FillsNone u → words_stored pl u size ≡ 0
none_stored (Decided tail stamp) u size early none = absurd early
none_stored (Leaving stamp) u size early none = absurd early
none_stored pl (task.Fills words) size early none = absurd none
none_stored pl u size early none = refl

-- a seat in a call that has stored no word of its block
pub record Ready (p : ℕ) (x : Part) : Type 0 where
  pub bounds : OwnBounds p x
  pub early : Early x.place
  pub empty : length x.current.block ≡ 0

pub ready_from : (p : ℕ) (x : Part) → OwnBounds p x → Early x.place → FillsNone x.task → Ready p x
ready_from p x own early none = record { bounds = own; early = early; empty = own.stored ∙ none_stored x.place x.task x.current.size early none }

early_active : (pl : Place) → is_active pl ≡ true → Early pl
early_active (Active tail) at = tt
early_active _ at = absurd (cc)

pub early_sealed : (pl : Place) → is_sealed pl ≡ true → Early pl
early_sealed (Sealed tail stamp) at = tt
early_sealed _ at = absurd (cc)

pub unfilled : (u : Task) (t : Attempt) (pl : Place) → is_active pl ≡ true → TaskFits pl t u → FillsNone u
unfilled (task.Fills words) t (Active tail) at f = absurd f
unfilled (task.Fills words) t _ at f = absurd (cc)
unfilled u t pl at f = tt

pub ready_active : (p : ℕ) (x : Part) → OwnBounds p x → OwnTask x → is_active x.place ≡ true → Ready p x
ready_active p x own fits at = ready_from p x own (early_active x.place at) (unfilled x.task x.current x.place at fits.fits)

pub ready_sealed : (p : ℕ) (x : Part) (t : Task) → OwnBounds p x → is_sealed x.place ≡ true → x.task ≡ t → FillsNone t → Ready p x
ready_sealed p x t own at is none = ready_from p x own (early_sealed x.place at) (subst FillsNone (sym is) none)

-- where a call may come to, of which no word is stored
pub record Bound (p : ℕ) (t : Attempt) (u : Task) : Type 0 where
  pub bounded : IsBounded p t u
  pub unfilled : FillsNone u

pub bound_if : (p : ℕ) (t : Attempt) (b : Bool) (u v : Task) → Bound p t u → Bound p t v → Bound p t (if b then u else v)
bound_if p t b u v f g = either_way (Bound p t) b u v (λ _. f) (λ _. g)

pub bound_from : (p : ℕ) (t : Attempt) (u : Task) → IsBounded p t u → FillsNone u → Bound p t u
bound_from p t u f g = record { bounded = f; unfilled = g }

-- the call goes on, and the transaction too
pub goes_on : (p : ℕ) (x : Part) (u : Task) (t : Attempt) (spare : List OwnCell) → Ready p x → t.begin ≡ x.current.begin → t.stamp ≡ x.current.stamp → t.block ≡ x.current.block →
    Bound p t u → OwnBounds p (record x { task = u; current = t; spare = spare })
goes_on p x u t spare ready begin stamp block b = record {
  bounded = b.bounded;
  stored = ap length block ∙ ready.empty ∙ sym (none_stored x.place u t.size ready.early b.unfilled);
  blocks = ready.bounds.blocks;
  begin_seen = let h = ready.bounds.begin_seen in omega (arith, h, begin);
  stamp_seen = let h = ready.bounds.stamp_seen in omega (arith, h, stamp);
}

pub task_on : (p : ℕ) (x : Part) (u : Task) → Ready p x → Bound p x.current u → OwnBounds p (record x { task = u })
task_on p x u ready b = goes_on p x u x.current x.spare ready refl refl refl b
