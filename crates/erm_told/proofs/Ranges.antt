-- Lists of numbers in ascending order: ranges, what a filter keeps, and that their members tell them.
use Rattle.std.proofs.Common.{◌≡◌, ℕ, zero, suc, ◌+◌, ◌<◌, ◌≤◌, Bool, true, false, List, [], ◌∷◌, map, filter, refl, sym, ap, ◌∙◌, subst, ⊎_elim, arith, cond}
use Rattle.std.specs.List.{range_with_len}
use Rattle.std.proofs.lemmas.Bool.{cases_eq}
use Rattle.erm_model.specs.Member.{◌∈◌}
use Rattle.erm_model.proofs.Members.{none_in_nil, ∈-behind}
use Rattle.erm_machine.proofs.Listed.{∈-cons, ∈-filter, ∈-head, ∈-map}
use Rattle.erm_told.proofs.Pairs.{Pairs}

-- the numbers of a range
pub in_range : (a n x : ℕ) → x ∈ range_with_len a n → (a ≤ x) × (x < a + n)
in_range a zero x m = absurd (none_in_nil x m)
in_range a (suc n) x m =
    ⊎_elim (λ (here : a ≡ x). (omega (arith, here), omega (arith, here)))
    (λ (later : x ∈ range_with_len (a + 1) n). let r = in_range (a + 1) n x later in (omega (arith, r.0), omega (arith, r.1)))
    (∈-cons x a (range_with_len (a + 1) n) m)

pub in_range_from : (a n x : ℕ) → a ≤ x → x < a + n → x ∈ range_with_len a n
in_range_from a zero x above below = absurd (omega (arith, above, below))
in_range_from a (suc n) x above below =
    ⊎_elim (λ (here : a ≡ x). subst (λ (y : ℕ). y ∈ range_with_len a (suc n)) here (∈-head a (range_with_len (a + 1) n)))
    (λ (another : a ≡ x → ⊥). ∈-behind a (range_with_len (a + 1) n) x (in_range_from (a + 1) n x (omega (arith, above, another)) (omega (arith, below))))
    (cases_eq a x)

pub pairs_range : (a n : ℕ) → Pairs (λ (x y : ℕ). x < y) (range_with_len a n)
pairs_range a zero = tt
pairs_range a (suc n) = (λ y m. omega (arith, (in_range (a + 1) n y m).0), pairs_range (a + 1) n)

-- pairs of what a filter keeps, and of a list that was mapped
kept_pairs : {X : Type 0} (R : X → X → Type 0) (p : X → Bool) (x : X) (xs : List X) (b : Bool) → ((y : X) → y ∈ xs → R x y) → Pairs R (filter p xs)
    → Pairs R (cond b (x ∷ filter p xs) (filter p xs))
kept_pairs R p x xs true first pairs = (λ y m. first y (∈-filter p y xs m).0, pairs)
kept_pairs R p x xs false first pairs = pairs

pub pairs_filter : {X : Type 0} (R : X → X → Type 0) (p : X → Bool) (xs : List X) → Pairs R xs → Pairs R (filter p xs)
pairs_filter R p [] pairs = tt
pairs_filter R p (x ∷ xs) pairs = kept_pairs R p x xs (p x) pairs.0 (pairs_filter R p xs pairs.1)

pub pairs_map : {X Y : Type 0} (f : X → Y) (R : Y → Y → Type 0) (xs : List X) → Pairs (λ a b. R (f a) (f b)) xs → Pairs R (map f xs)
pairs_map f R [] pairs = tt
pairs_map {X} {Y} f R (x ∷ xs) pairs = (
  λ y m. let at = ∈-map f xs y m in subst (λ (z : Y). R (f x) z) at.2 (pairs.0 at.0 at.1),
  pairs_map f R xs pairs.1,
)

-- the first of each of two ascending lists with the same members is the same
same_first : (x y : ℕ) (xs ys : List ℕ) → Pairs (λ (a b : ℕ). a < b) (x ∷ xs) → Pairs (λ (a b : ℕ). a < b) (y ∷ ys) → x ∈ (y ∷ ys) → y ∈ (x ∷ xs) → x ≡ y
same_first x y xs ys ascend then_ascend there here =
    ⊎_elim (λ (same : y ≡ x). sym same)
    (λ (later : x ∈ ys). ⊎_elim (λ (same : x ≡ y). same) (λ (after : y ∈ xs). absurd (omega (arith, then_ascend.0 x later, ascend.0 y after))) (∈-cons y x xs here))
    (∈-cons x y ys there)

rest_in : (x y z : ℕ) (xs ys : List ℕ) → x ≡ y → Pairs (λ (a b : ℕ). a < b) (x ∷ xs) → ((a : ℕ) → a ∈ (x ∷ xs) → a ∈ (y ∷ ys)) → z ∈ xs → z ∈ ys
rest_in x y z xs ys first ascend all m =
    ⊎_elim (λ (same : y ≡ z). absurd (omega (arith, ascend.0 z m, first, same))) (λ (later : z ∈ ys). later) (∈-cons z y ys (all z (∈-behind x xs z m)))

pub same_list : (xs ys : List ℕ) → Pairs (λ (a b : ℕ). a < b) xs → Pairs (λ (a b : ℕ). a < b) ys → ((x : ℕ) → x ∈ xs → x ∈ ys) → ((x : ℕ) → x ∈ ys → x ∈ xs) → xs ≡ ys
same_list [] [] ascend then_ascend all only = refl
same_list [] (y ∷ ys) ascend then_ascend all only = absurd (none_in_nil y (only y (∈-head y ys)))
same_list (x ∷ xs) [] ascend then_ascend all only = absurd (none_in_nil x (all x (∈-head x xs)))
same_list (x ∷ xs) (y ∷ ys) ascend then_ascend all only =
    let first : x ≡ y = same_first x y xs ys ascend then_ascend (all x (∈-head x xs)) (only y (∈-head y ys)) in
    let rest : xs ≡ ys =
    same_list xs ys ascend.1 then_ascend.1 (λ z m. rest_in x y z xs ys first ascend all m) (λ z m. rest_in y x z ys xs (sym first) then_ascend only m)
    in
    ap (λ (z : ℕ). z ∷ xs) first ∙ ap (λ (zs : List ℕ). y ∷ zs) rest
