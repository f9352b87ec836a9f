-- What is so of all elements, of each two, or of all places, part by part.
use Rattle.std.proofs.Common.{◌≡◌, ℕ, zero, suc, ◌+◌, ◌<◌, Bool, true, false, ◌&&◌, List, [], ◌∷◌, length, get_or, Option, Some, None, refl, subst, arith}
use Rattle.std.specs.List.{AllPairs, AllByRecursion, slice_get}
use Rattle.std.specs.Prelude.{IfSome}
use Rattle.erm_model.specs.Member.{◌∈◌}

-- what is so of all that stand in a list
pub each_in : {X : Type 0} (P : X → Type 0) (xs : List X) → AllByRecursion P xs → (x : X) → x ∈ xs → P x
each_in P [] all x (k, at) = cc
each_in P (y ∷ ys) all x (zero, at) = let same : y ≡ x = cc in subst P same all.0
each_in P (y ∷ ys) all x (suc k, at) = each_in P ys all.1 x (k, at)

-- whether a test passes at all, and at each two of which the one is before the other
abbrev pub all_pass : {X : Type 0} → (X → Bool) → List X → Bool
all_pass test [] = true
all_pass test (x ∷ xs) = test x && all_pass test xs

abbrev pub pairs_pass : {X : Type 0} → (X → X → Bool) → List X → Bool
pairs_pass test [] = true
pairs_pass test (x ∷ xs) = all_pass (test x) xs && pairs_pass test xs

first_true : (a b : Bool) → (a && b) ≡ true → a ≡ true
first_true true b both = refl
first_true false b both = both

second_true : (a b : Bool) → (a && b) ≡ true → b ≡ true
second_true true b both = both
second_true false b both = cc

passes_at : {X : Type 0} (test : X → Bool) (xs : List X) (k : ℕ) (d : X) → all_pass test xs ≡ true → k < length xs → test (get_or xs k d) ≡ true
passes_at test [] k d pass within = absurd (omega arith)
passes_at test (x ∷ xs) zero d pass within = first_true (test x) (all_pass test xs) pass
passes_at test (x ∷ xs) (suc k) d pass within = passes_at test xs k d (second_true (test x) (all_pass test xs) pass) (omega arith)

pub all_pairs_from_test : {X : Type 0} (R : X → X → Type 0) (test : X → X → Bool) → ((a b : X) → test a b ≡ true → R a b) → (xs : List X) → pairs_pass test xs ≡ true → AllPairs R xs
all_pairs_from_test R test sound [] pass i j d less within = absurd (omega arith)
all_pairs_from_test R test sound (x ∷ xs) pass zero zero d less within = absurd (omega arith)
all_pairs_from_test R test sound (x ∷ xs) pass zero (suc j) d less within = sound x (get_or xs j d) (passes_at (test x) xs j d (first_true (all_pass (test x) xs) (pairs_pass test xs) pass) (omega arith))
all_pairs_from_test R test sound (x ∷ xs) pass (suc i) zero d less within = absurd (omega arith)
all_pairs_from_test R test sound (x ∷ xs) pass (suc i) (suc j) d less within =
    all_pairs_from_test R test sound xs (second_true (all_pass (test x) xs) (pairs_pass test xs) pass) i j d (omega arith) (omega arith)

-- of two
pub all_pairs_of_two : {X : Type 0} (R : X → X → Type 0) (x y : X) → R x y → AllPairs R (x ∷ y ∷ [])
all_pairs_of_two R x y both zero zero d less within = absurd (omega arith)
all_pairs_of_two R x y both zero (suc zero) d less within = both
all_pairs_of_two R x y both zero (suc (suc j)) d less within = absurd (omega arith)
all_pairs_of_two R x y both (suc i) zero d less within = absurd (omega arith)
all_pairs_of_two R x y both (suc i) (suc j) d less within = absurd (omega arith)

pub all_pairs_of_none : {X : Type 0} (R : X → X → Type 0) → AllPairs R []
all_pairs_of_none R i j d less within = absurd (omega arith)

-- what is so at all places of two lists side by side, the first of which has this number
abbrev pub EachPlace : {X Y : Type 0} → (ℕ → X → Y → Type 0) → ℕ → List X → List Y → Type 0
EachPlace P k [] ys = Unit {0}
EachPlace P k (x ∷ xs) [] = Unit {0}
EachPlace P k (x ∷ xs) (y ∷ ys) = P k x y × EachPlace P (k + 1) xs ys

places_from : {X Y : Type 0} (P : ℕ → X → Y → Type 0) (k : ℕ) (xs : List X) (ys : List Y) → EachPlace P k xs ys → (i : ℕ) (x : X) (y : Y) → slice_get xs i ≡ Some x → slice_get ys i ≡ Some y → P (k + i) x y
places_from P k [] ys each i x y at beside = cc
places_from P k (a ∷ xs) [] each i x y at beside = cc
places_from P k (a ∷ xs) (b ∷ ys) each zero x y at beside =
    let one : a ≡ x = cc in
    let other : b ≡ y = cc in
    let place : k ≡ k + zero = omega arith in
    subst (λ n. P n x y) place (subst (λ c. P k x c) other (subst (λ c. P k c b) one each.0))
places_from P k (a ∷ xs) (b ∷ ys) each (suc i) x y at beside =
    let place : k + 1 + i ≡ k + suc i = omega arith in
    subst (λ n. P n x y) place (places_from P (k + 1) xs ys each.1 i x y at beside)

pub each_place : {X Y : Type 0} (P : ℕ → X → Y → Type 0) (xs : List X) (ys : List Y) → EachPlace P 0 xs ys → (i : ℕ) (x : X) (y : Y) → slice_get xs i ≡ Some x → slice_get ys i ≡ Some y → P i x y
each_place P xs ys each i x y at beside =
    let place : 0 + i ≡ i = omega arith in
    subst (λ n. P n x y) place (places_from P 0 xs ys each i x y at beside)

-- whether of two numbers that are told a test passes
abbrev pub told_pass : (ℕ → ℕ → Bool) → Option ℕ → Option ℕ → Bool
told_pass test None b = true
told_pass test (Some m) None = true
told_pass test (Some m) (Some n) = test m n

pub told_from_test : (P : ℕ → ℕ → Type 0) (test : ℕ → ℕ → Bool) → ((m n : ℕ) → test m n ≡ true → P m n) → (a b : Option ℕ) → told_pass test a b ≡ true → IfSome a (λ m. IfSome b (λ n. P m n))
told_from_test P test sound None b pass = tt
told_from_test P test sound (Some m) None pass = tt
told_from_test P test sound (Some m) (Some n) pass = sound m n pass
