-- Spare lists: each cell stands there once.
use Rattle.std.proofs.Common.{◌≡◌, ℕ, ◌+◌, ◌<◌, ◌≤◌, ⊎_elim, Bool, true, false, cond, List, [], ◌∷◌, map, eqb, refl, sym, ap, ◌∙◌, arith}
use Rattle.std.specs.Prelude.{count_by, ◌==◌}
use Rattle.std.proofs.lemmas.Bool.{cases_lt, eq-eqb}
use Rattle.std.proofs.lemmas.List.Sums.{sum_by-cons}
use Rattle.erm_model.specs.Member.{◌∈◌}
use Rattle.erm_machine.specs.declared.attempt.OwnCell.{OwnCell}
use Rattle.erm_machine.specs.declared.limits.TheConstants.{ANNOUNCERS}
use Rattle.erm_machine.specs.declared.part.Part.{Part}
use Rattle.erm_machine.specs.Cells.{own_times}
use Rattle.erm_machine.specs.Core.{Core}
use Rattle.erm_machine.specs.Sound.{Sound}
use Rattle.erm_rule.proofs.OnePlace.{own_single}
use Rattle.erm_rule.proofs.Parts.{none_there, split_at}

-- the numbers of these cells
abbrev pub numbers : List OwnCell → List ℕ
numbers xs = map (λ (own : OwnCell). own.cell) xs

-- how often a number stands in a list of cells
abbrev pub times : ℕ → List OwnCell → ℕ
times n xs = count_by (λ (own : OwnCell). own.cell == n) xs

times_cons : (n : ℕ) (x : OwnCell) (xs : List OwnCell) → times n (x ∷ xs) ≡ cond (eqb x.cell n) 1 0 + times n xs
times_cons n x xs = sum_by-cons (λ (own : OwnCell). cond (eqb own.cell n) 1 0) x xs

one_if : (b : Bool) → b ≡ true → ◌≡◌ {A = ℕ} (cond b 1 0) 1
one_if true e = refl
one_if false e = absurd (cc)

-- one that stands there counts
counts_one : (n : ℕ) (xs : List OwnCell) (own : OwnCell) → own ∈ xs → own.cell ≡ n → 1 ≤ times n xs
counts_one n [] own m is = absurd (none_there own m)
counts_one n (x ∷ xs) own m is =
    let all = times_cons n x xs in
    ⊎_elim
    (λ (here : x ≡ own). let one = one_if (eqb x.cell n) (eq-eqb x.cell n (ap (λ (z : OwnCell). z.cell) here ∙ is)) in omega (arith, all, one))
    (λ (behind : own ∈ xs). let rest = counts_one n xs own behind is in omega (arith, all, rest))
    (split_at x own xs m)

-- where a number stands at most once, two cells with it are one
pub same_cell : (n : ℕ) (xs : List OwnCell) (a b : OwnCell) → times n xs ≤ 1 → a ∈ xs → b ∈ xs → a.cell ≡ n → b.cell ≡ n → a ≡ b
same_cell n [] a b few ma mb first second = absurd (none_there a ma)
same_cell n (x ∷ xs) a b few ma mb first second =
    let all = times_cons n x xs in
    let two : (own other : OwnCell) → x ≡ own → own.cell ≡ n → other ∈ xs → other.cell ≡ n → ⊥ =
    λ own other here is m also.
    let one = one_if (eqb x.cell n) (eq-eqb x.cell n (ap (λ (z : OwnCell). z.cell) here ∙ is)) in let rest = counts_one n xs other m also in omega (arith, few, all, one, rest) in
    ⊎_elim
    (λ (here : x ≡ a). ⊎_elim (λ (there : x ≡ b). sym here ∙ there) (λ (behind : b ∈ xs). absurd (two a b here first behind second)) (split_at x b xs mb))
    (λ (behind : a ∈ xs).
    ⊎_elim (λ (there : x ≡ b). absurd (two b a there second behind first)) (λ (also : b ∈ xs). same_cell n xs a b (omega (arith, few, all)) behind also first second) (split_at x b xs mb))
    (split_at x a xs ma)

-- a seat's spare cells stand once each
module _ (c : Core) (p : ℕ) (sound : Sound c) (seat : p < ANNOUNCERS) where
  abbrev x : Part
  x = c.seats p

  pub once : (n : ℕ) → times n x.spare ≤ 1
  once n =
      ⊎_elim
      (λ (none : own_times n x < 1). omega (arith, none))
      (λ (some : 1 ≤ own_times n x). let one = own_single c.shared c.seats sound.common.cells n p seat some in omega (arith, one))
      (cases_lt (own_times n x) 1)
