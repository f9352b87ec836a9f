-- The items that an iterator gives.
use Rattle.std.proofs.Common.{◌≡◌, List, ◌∷◌, Some, refl, sym, ap, ◌∙◌, subst}
use Rattle.std.specs.List.{slice_get}

-- the first and the second of some
pub first_of : {X : Type 0} (xs rest : List X) (x : X) → xs ≡ x ∷ rest → slice_get xs 0 ≡ Some x
first_of {X} xs rest x is = subst (λ (l : List X). slice_get l 0 ≡ Some x) (sym is) refl

pub second_of : {X : Type 0} (xs more rest : List X) (x y : X) → xs ≡ x ∷ more → more ≡ y ∷ rest → slice_get xs 1 ≡ Some y
second_of {X} xs more rest x y is then = subst (λ (l : List X). slice_get l 1 ≡ Some y) (sym (is ∙ ap (λ (l : List X). x ∷ l) then)) refl
