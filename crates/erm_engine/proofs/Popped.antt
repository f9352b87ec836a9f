-- A list whose last item is taken off.
use Rattle.std.proofs.Common.{◌≡◌, ℕ, zero, suc, List, [], ◌∷◌, ◌++◌, length, Some, refl}
use Rattle.std.specs.Prelude.{slice_get}

-- it stands last, and the others stand where they stood
pub at_last : {X : Type 0} (xs : List X) (x : X) → slice_get (xs ++ x ∷ []) (length xs) ≡ Some x
at_last [] x = refl
at_last (y ∷ xs) x = at_last xs x

pub at_before : {X : Type 0} (xs : List X) (y x : X) (k : ℕ) → slice_get xs k ≡ Some x → slice_get (xs ++ y ∷ []) k ≡ Some x
at_before [] y x k at = absurd (cc)
at_before (z ∷ xs) y x zero at = at
at_before (z ∷ xs) y x (suc k) at = at_before xs y x k at
