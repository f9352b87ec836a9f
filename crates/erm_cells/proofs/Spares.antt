-- Spare lists: their last cells, and how long they get.
use Rattle.std.proofs.Common.{◌≡◌, ℕ, ◌+◌, ◌-◌, ◌<◌, ◌≤◌, ⊎_elim, Bool, true, false, cond, List, [], ◌∷◌, ◌++◌, length, map, take, get_or, eqb, refl, sym, ap, ◌∙◌, arith, subst}
use Rattle.std.specs.List.{AllByRecursion, IsDistinct, list_any}
use Rattle.std.specs.Prelude.{count_by, ◌==◌}
use Rattle.std.proofs.lemmas.Bool.{cases_lt, eq-eqb, or_cases, eqb-true}
use Rattle.std.proofs.lemmas.List.{get_or_push, get_or-map, length-append, length-map, take_at, take-map}
use Rattle.std.proofs.lemmas.List.Sums.{sum_by-cons}
use Rattle.std.proofs.lemmas.Map.Steps.{length-le_from_distinct_below}
use Rattle.erm_model.specs.declared.limits.TheConstants.{TABLE_CELLS}
use Rattle.erm_machine.specs.declared.attempt.OwnCell.{OwnCell}
use Rattle.erm_machine.specs.declared.limits.TheConstants.{ANNOUNCERS}
use Rattle.erm_machine.specs.declared.part.Part.{Part}
use Rattle.erm_machine.specs.Cells.{own_times}
use Rattle.erm_machine.specs.Core.{Core}
use Rattle.erm_machine.specs.Sound.{Sound}
use Rattle.erm_rule.proofs.OnePlace.{own_drawn, own_single}
use Rattle.erm_cells.specs.Spare.{spare_cells}

-- the last of a list that is a longer one by one
module _ {X : Type 0} (f : X → ℕ) (xs : List X) (d : X) (ns : List ℕ) (n : ℕ) (is : ns ++ n ∷ [] ≡ map f xs) where
  pub some : 0 < length xs
  some = let a = ap length is in let b = length-append ns (n ∷ []) in let e = length-map xs f in omega (arith, a, b, e)

  size : length ns ≡ length xs - 1
  size = let a = ap length is in let b = length-append ns (n ∷ []) in let e = length-map xs f in omega (arith, a, b, e)

  pub front_is : ns ≡ map f (take (length xs - 1) xs)
  front_is = sym (take_at ns (n ∷ []) (length xs - 1) size) ∙ ap (take (length xs - 1)) is ∙ take-map f (length xs - 1) xs

  pub last_is : f (get_or xs (length xs - 1) d) ≡ n
  last_is = sym (get_or-map f xs (length xs - 1) d 0 (omega (arith, some))) ∙ ap (λ (ms : List ℕ). get_or ms (length xs - 1) 0) (sym is) ∙ get_or_push ns n 0 (length xs - 1) size

-- how often a number stands in a list of cells
abbrev times : ℕ → List OwnCell → ℕ
times n xs = count_by (λ (own : OwnCell). own.cell == n) xs

times_cons : (n : ℕ) (x : OwnCell) (xs : List OwnCell) → times n (x ∷ xs) ≡ cond (eqb x.cell n) 1 0 + times n xs
times_cons n x xs = sum_by-cons (λ (own : OwnCell). cond (eqb own.cell n) 1 0) x xs

one_if : (b : Bool) → b ≡ true → ◌≡◌ {A = ℕ} (cond b 1 0) 1
one_if true e = refl
one_if false e = absurd (cc)

-- one that stands there counts
counts : (n : ℕ) (xs : List OwnCell) → list_any (eqb n) (map (λ (own : OwnCell). own.cell) xs) ≡ true → 1 ≤ times n xs
counts n [] e = absurd (cc)
counts n (x ∷ xs) e =
    let all = times_cons n x xs in
    ⊎_elim
    (λ (here : eqb n x.cell ≡ true). let one = one_if (eqb x.cell n) (eq-eqb x.cell n (sym (eqb-true n x.cell here))) in omega (arith, all, one))
    (λ (behind : list_any (eqb n) (map (λ (own : OwnCell). own.cell) xs) ≡ true). let rest = counts n xs behind in omega (arith, all, rest))
    (or_cases (eqb n x.cell) (list_any (eqb n) (map (λ (own : OwnCell). own.cell) xs)) e)

none_there : (n : ℕ) (xs : List OwnCell) → times n xs ≡ 0 → AllByRecursion (λ m. eqb n m ≡ false) (map (λ (own : OwnCell). own.cell) xs)
none_there n [] none = tt
none_there n (x ∷ xs) none =
    let all = times_cons n x xs in (other (eqb n x.cell) refl all, none_there n xs (omega (arith, none, all)))
  where
    other : (b : Bool) → eqb n x.cell ≡ b → times n (x ∷ xs) ≡ cond (eqb x.cell n) 1 0 + times n xs → eqb n x.cell ≡ false
    other true is all = absurd (let one = one_if (eqb x.cell n) (eq-eqb x.cell n (sym (eqb-true n x.cell is))) in omega (arith, none, all, one))
    other false is all = is

-- where each number stands at most once no two are the same
apart : (xs : List OwnCell) → ((n : ℕ) → times n xs ≤ 1) → IsDistinct eqb (map (λ (own : OwnCell). own.cell) xs)
unfolding IsDistinct
apart [] few = tt
apart (x ∷ xs) few = (
  none_there x.cell xs
      (let all = times_cons x.cell x xs in let one = one_if (eqb x.cell x.cell) (eq-eqb x.cell x.cell refl) in let most = few x.cell in omega (arith, all, one, most)),
  apart xs (λ n. let all = times_cons n x xs in let most = few n in omega (arith, all, most)),
)

-- so many cells as there are, at most, are a seat's spare ones
module _ (c : Core) (p : ℕ) (sound : Sound c) (limit : c.shared.cell_limit ≡ TABLE_CELLS) (seat : p < ANNOUNCERS) where
  abbrev x : Part
  x = c.seats p

  few : (n : ℕ) → times n x.spare ≤ 1
  few n =
      ⊎_elim
      (λ (none : own_times n x < 1). omega (arith, none))
      (λ (some : 1 ≤ own_times n x). let one = own_single c.shared c.seats sound.common.cells n p seat some in omega (arith, one))
      (cases_lt (own_times n x) 1)

  below : (n : ℕ) → list_any (eqb n) (spare_cells x) ≡ true → n < TABLE_CELLS
  below n there =
      let some = counts n x.spare there in
      let drawn = own_drawn c.shared c.seats sound.common.cells n p seat (omega (arith, some)) in
      subst (λ m. n < m) limit drawn.1

  pub spares_fit : length x.spare ≤ TABLE_CELLS
  spares_fit =
      let all = length-le_from_distinct_below (spare_cells x) TABLE_CELLS (apart x.spare few) below in
      let same = length-map x.spare (λ (own : OwnCell). own.cell) in
      omega (arith, all, same)
