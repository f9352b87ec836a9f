-- What a binary search in sorted numbers says of membership.
use Rattle.std.proofs.Common.{◌≡◌, ◌<◌, ◌≤◌, ◌↔◌, ℕ, List, length, get_or, Result, Ok, Err, IsOk, Contains, refl, arith}
use Rattle.std.specs.Ordering.{nat_cmp}
use Rattle.std.specs.List.Sorted.{IsSorted, IsBinarySearchResult}
use Rattle.std.proofs.lemmas.Grind.{get_or_default_zero}
use Rattle.std.proofs.lemmas.List.Elements.{Contains-get_or}
use Rattle.std.proofs.lemmas.List.Sorted.{IsNonDecreasingBy-from_sort, searched}

-- where those before a place are less than x and those from it on greater, none is x
apart : (k i n a x : ℕ) → (k < i → a < x) → (i ≤ k → k < n → x < a) → k < n → a ≡ x → ⊥
apart k i n a x below above lt e = grind arith

-- it finds a number exactly where the list has it
pub IsOk-searched : (xs : List ℕ) (x : ℕ) (r : Result ℕ ℕ) → IsSorted nat_cmp xs → IsBinarySearchResult (λ y. nat_cmp y x) xs r → IsOk r ↔ Contains xs x
IsOk-searched xs x (Ok i) sorted found =
    let f = searched xs x (Ok i) found (λ i j le lt. IsNonDecreasingBy-from_sort (λ x. x) xs sorted i j 0 le lt) in
    (λ _. rw f.1 at (Contains-get_or xs i 0 f.0), λ _. refl)
IsOk-searched xs x (Err i) sorted found =
    let f = searched xs x (Err i) found (λ i j le lt. IsNonDecreasingBy-from_sort (λ x. x) xs sorted i j 0 le lt) in
    (λ e. absurd (cc), λ has. absurd (apart has.0 i (length xs) (get_or xs has.0 x) x (λ lt. rw (get_or_default_zero xs has.0 x has.1) (f.1 has.0 lt)) (λ le lt. rw (get_or_default_zero xs has.0 x has.1) (f.2 has.0 le lt)) has.1 has.2))
