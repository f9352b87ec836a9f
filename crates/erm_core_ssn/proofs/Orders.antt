-- Lists in the serial order: each element comes before each later one.
use Rattle.std.proofs.Common.{◌≡◌, ℕ, zero, suc, ◌<◌, ◌⊎◌, ⊎_elim, inl, inr, List, [], ◌∷◌, Some, slice_get, get_or, AllPairs, refl, sym, subst, arith}
use Rattle.std.proofs.lemmas.List.Sorted.{IsPermutation-sym}
use Rattle.std.proofs.lemmas.Bool.{cases_order}
use Rattle.std.proofs.lemmas.Option.{get_or_from_slice_get, slice_get_within}
use Rattle.erm_model.specs.Member.{◌∈◌}
use Rattle.erm_model.specs.SerialOrder.{Rank, ComesBefore, IsSerialOrder}
use Rattle.erm_model.proofs.Members.{none_in_nil, ∈-behind}
use Rattle.erm_machine.proofs.Listed.{∈-cons, ∈-head}
use Rattle.erm_core_ssn.proofs.Members.{∈-permutation}

-- the serial order is transitive, and what comes before another does not come after it
pub ComesBefore-trans : (a b c : Rank) → ComesBefore a b → ComesBefore b c → ComesBefore a c
ComesBefore-trans a b c first second = grind arith

pub ComesBefore-asym : (a b : Rank) → ComesBefore a b → ComesBefore b a → ⊥
ComesBefore-asym a b first second = grind arith

-- what stands behind in a list whose elements are related to each later one
pub related : {X : Type 0} (R : X → X → Type 0) (xs : List X) → AllPairs R xs → (i j : ℕ) (x y : X) → slice_get xs i ≡ Some x → slice_get xs j ≡ Some y → i < j → R x y
related R xs all i j x y at_i at_j before =
    subst (λ v. R v y) (get_or_from_slice_get xs i x x at_i) (subst (λ v. R (get_or xs i x) v) (get_or_from_slice_get xs j y x at_j) (all i j x before (slice_get_within xs j y at_j)))

-- the places of two elements of a list in serial order are as their ranks
pub place_before : {X : Type 0} (rank : X → Rank) (order : List X) → AllPairs (λ a b. ComesBefore (rank a) (rank b)) order → (i j : ℕ) (x y : X) → slice_get order i ≡ Some x → slice_get order j ≡ Some y → ComesBefore (rank x) (rank y) → i < j
place_before rank order ascends i j x y at_i at_j before =
    ⊎_elim
    (λ (same : i ≡ j).
    let e : x ≡ y = cc in
    absurd (ComesBefore-asym (rank x) (rank y) before (subst (λ v. ComesBefore (rank v) (rank x)) e (subst (λ v. ComesBefore (rank x) (rank v)) (sym e) before))))
    (⊎_elim
    (λ (less : i < j). less)
    (λ (more : j < i). absurd (ComesBefore-asym (rank x) (rank y) before (related (λ a b. ComesBefore (rank a) (rank b)) order ascends j i y x at_j at_i more))))
    (cases_order i j)

-- each element comes before each later one, by cases on the list
abbrev pub Ascends : {X : Type 0} → (X → Rank) → List X → Type 0
Ascends rank [] = Unit {0}
Ascends {X} rank (x ∷ xs) = ((y : X) → y ∈ xs → ComesBefore (rank x) (rank y)) × Ascends rank xs

AllPairs-tail : {X : Type 0} (R : X → X → Type 0) (x : X) (xs : List X) → AllPairs R (x ∷ xs) → AllPairs R xs
AllPairs-tail R x xs all i j d before within = all (suc i) (suc j) d (omega arith) (omega arith)

pub Ascends-from_AllPairs : {X : Type 0} (rank : X → Rank) (xs : List X) → AllPairs (λ a b. ComesBefore (rank a) (rank b)) xs → Ascends rank xs
Ascends-from_AllPairs rank [] all = tt
Ascends-from_AllPairs rank (x ∷ xs) all =
    (λ y there. related (λ a b. ComesBefore (rank a) (rank b)) (x ∷ xs) all zero (suc there.0) x y refl there.1 (omega arith), Ascends-from_AllPairs rank xs (AllPairs-tail (λ a b. ComesBefore (rank a) (rank b)) x xs all))

-- A history cut in two at a place of a serial order: what has had its turn, in any order, and what waits, in the order.
pub record IsCut {X : Type 0} (rank : X → Rank) (all done rest : List X) : Type 0 where
  pub each : (x : X) → x ∈ all → (x ∈ done) ⊎ (x ∈ rest)
  pub of_done : (x : X) → x ∈ done → x ∈ all
  pub of_rest : (x : X) → x ∈ rest → x ∈ all
  pub before : (x y : X) → x ∈ done → y ∈ rest → ComesBefore (rank x) (rank y)
  pub ascends : Ascends rank rest

-- before the first turn
pub first_cut : {X : Type 0} (rank : X → Rank) (all order : List X) → IsSerialOrder rank all order → IsCut rank all [] order
first_cut rank all order serial = record {
  each = λ x there. inr (∈-permutation x all order serial.same there);
  of_done = λ x there. absurd (none_in_nil x there);
  of_rest = λ x there. ∈-permutation x order all (IsPermutation-sym all order serial.same) there;
  before = λ x y there _. absurd (none_in_nil x there);
  ascends = Ascends-from_AllPairs rank order serial.ascends;
}

-- after one more turn
pub next_cut : {X : Type 0} (rank : X → Rank) (all done : List X) (x : X) (rest : List X) → IsCut rank all done (x ∷ rest) → IsCut rank all (x ∷ done) rest
next_cut {X} rank all done x rest cut = record {
  each = λ y there.
      ⊎_elim
      (λ (h : y ∈ done). inl (∈-behind x done y h))
      (λ (h : y ∈ (x ∷ rest)).
      ⊎_elim
      (λ (e : x ≡ y). inl (subst (λ v. v ∈ (x ∷ done)) e (∈-head x done)))
      (λ (k : y ∈ rest). inr k)
      (∈-cons y x rest h))
      (cut.each y there);
  of_done = λ y there.
      ⊎_elim
      (λ (e : x ≡ y). subst (λ v. v ∈ all) e (cut.of_rest x (∈-head x rest)))
      (λ (h : y ∈ done). cut.of_done y h)
      (∈-cons y x done there);
  of_rest = λ y there. cut.of_rest y (∈-behind x rest y there);
  before = λ y z at_y at_z.
      ⊎_elim
      (λ (e : x ≡ y). subst (λ v. ComesBefore (rank v) (rank z)) e (cut.ascends.0 z at_z))
      (λ (h : y ∈ done). cut.before y z h (∈-behind x rest z at_z))
      (∈-cons y x done at_y);
  ascends = cut.ascends.1;
}

-- who comes before the first that waits has had its turn, and the first that waits has not
pub has_had_turn : {X : Type 0} (rank : X → Rank) (all done : List X) (x : X) (rest : List X) → IsCut rank all done (x ∷ rest) → (y : X) → y ∈ all → ComesBefore (rank y) (rank x) → y ∈ done
has_had_turn rank all done x rest cut y there before =
    ⊎_elim
    (λ (h : y ∈ done). h)
    (λ (h : y ∈ (x ∷ rest)).
    ⊎_elim
    (λ (e : x ≡ y). absurd (ComesBefore-asym (rank x) (rank x) (subst (λ v. ComesBefore (rank v) (rank x)) (sym e) before) (subst (λ v. ComesBefore (rank v) (rank x)) (sym e) before)))
    (λ (k : y ∈ rest). absurd (ComesBefore-asym (rank x) (rank y) (cut.ascends.0 y k) before))
    (∈-cons y x rest h))
    (cut.each y there)

pub no_turn_twice : {X : Type 0} (rank : X → Rank) (all done : List X) (x : X) (rest : List X) → IsCut rank all done (x ∷ rest) → (y : X) → y ∈ done → ComesBefore (rank x) (rank y) → ⊥
no_turn_twice rank all done x rest cut y there after = ComesBefore-asym (rank y) (rank x) (cut.before y x there (∈-head x rest)) after
