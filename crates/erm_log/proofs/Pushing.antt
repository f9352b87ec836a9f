-- Texts of some items behind words, and the text of the next one.
use Rattle.std.proofs.Common.{◌≡◌, ℕ, ◌+◌, ◌<◌, List, [], ◌∷◌, ◌++◌, length, take, get_or, ap, ◌∙◌, subst, append_assoc}
use Rattle.std.specs.List.{flat_map}
use Rattle.std.proofs.lemmas.List.{flat_map_more, take_more}

pub one_more : {X : Type 0} (f : X → List ℕ) (front words out after : List ℕ) (xs ys : List X) (k : ℕ) (x : X) → ys ≡ xs → k < length ys
    → out ≡ front ++ (words ++ flat_map f (take k xs)) → after ≡ out ++ f (get_or ys k x) → after ≡ front ++ (words ++ flat_map f (take (k + 1) xs))
one_more {X} f front words out after xs ys k x same within so_far more =
    let there : k < length xs = subst (λ (zs : List X). k < length zs) same within in
    let next : take (k + 1) xs ≡ take k xs ++ get_or xs k x ∷ [] = take_more xs k x there in
    rw next (
    more ∙ ap (λ (zs : List X). out ++ f (get_or zs k x)) same
    ∙ ap (λ (t : List ℕ). t ++ f (get_or xs k x)) so_far ∙ append_assoc front (words ++ flat_map f (take k xs)) (f (get_or xs k x))
    ∙ ap (λ (t : List ℕ). front ++ t) (flat_map_more f words (take k xs) (get_or xs k x)))
