-- Steps in turn, joined end to end.
use Rattle.std.proofs.Common.{◌≡◌, ℕ, ◌+◌, ◌<◌, get_or, take, List, [], ◌∷◌, ◌++◌, length, refl, sym, ap, ◌∙◌}
use Rattle.std.proofs.lemmas.List.{take_more}
use Rattle.erm_model.specs.InTurn.{in_turn}

-- steps after others act on what those left
pub in_turn-append : {X S : Type 0} (does : X → S → S) (xs ys : List X) (s : S) → in_turn does (xs ++ ys) s ≡ in_turn does ys (in_turn does xs s)
in_turn-append does [] ys s = refl
in_turn-append does (x ∷ xs) ys s = in_turn-append does xs ys (does x s)

-- up to a place and what stands there
pub front_more : {X : Type 0} (xs : List X) (i : ℕ) (x : X) → i < length xs → x ≡ get_or xs i x → take (i + 1) xs ≡ take i xs ++ x ∷ []
front_more xs i x within is = take_more xs i x within ∙ ap (λ y. take i xs ++ y ∷ []) (sym is)

-- steps up to a place and the one at that place
pub in_turn-take_more : {X S : Type 0} (does : X → S → S) (xs : List X) (i : ℕ) (x : X) (s : S) → i < length xs → x ≡ get_or xs i x → in_turn does (take (i + 1) xs) s ≡ does x (in_turn does (take i xs) s)
in_turn-take_more does xs i x s within is = ap (λ front. in_turn does front s) (front_more xs i x within is) ∙ in_turn-append does (take i xs) (x ∷ []) s
