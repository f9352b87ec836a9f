-- What stands at a place of a list.
use Rattle.std.proofs.Common.{◌≡◌, ℕ, zero, suc, ◌-◌, ◌<◌, ◌≤◌, List, [], ◌∷◌, length, get_or, slice_get, Some, sym, subst, inl, inr, arith}
use Rattle.std.proofs.lemmas.Bool.{cases_eq}

-- a place at which something stands lies within
pub at_within : {X : Type 0} (xs : List X) (k : ℕ) (x : X) → slice_get xs k ≡ Some x → k < length xs
at_within [] k x at = absurd (cc)
at_within (y ∷ xs) zero x at = omega arith
at_within (y ∷ xs) (suc k) x at = omega (arith, at_within xs k x at)

-- what stands there is read there
pub at_is : (xs : List ℕ) (k x : ℕ) → slice_get xs k ≡ Some x → x ≡ get_or xs k 0
at_is [] k x at = absurd (cc)
at_is (y ∷ xs) zero x at = cc
at_is (y ∷ xs) (suc k) x at = at_is xs k x at

-- what is read at a place is what stands there
pub at_read : {X : Type 0} (xs : List X) (k : ℕ) (x y : X) → x ≡ get_or xs k x → slice_get xs k ≡ Some y → x ≡ y
at_read [] k x y read at = absurd (cc)
at_read (z ∷ xs) zero x y read at = cc
at_read (z ∷ xs) (suc k) x y read at = at_read xs k x y read at

pub read_at : {X : Type 0} (xs : List X) (k : ℕ) (x : X) → k < length xs → x ≡ get_or xs k x → slice_get xs k ≡ Some x
read_at [] k x within read = absurd (omega arith)
read_at (z ∷ xs) zero x within read = cc
read_at (z ∷ xs) (suc k) x within read = read_at xs k x (omega arith) read

-- what holds at a place, and from the next one on
pub from_here : (P : ℕ → Type 0) (n : ℕ) → 0 < n → P (n - 1) → ((k : ℕ) → n ≤ k → P k) → (k : ℕ) → n - 1 ≤ k → P k
from_here P zero some here later k low = absurd (omega (arith, some))
from_here P (suc m) some here later k low =
    let before : suc m - 1 ≡ m = omega arith in
    elim (cases_eq k m) as (λ _. P k) [
      | inl same ↦ subst P (sym same) (subst P before here)
      | inr other ↦ later k (omega (arith, low, other))
    ]
