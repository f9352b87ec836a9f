-- The first of a list taken away, one after another.
use Rattle.std.proofs.Common.{◌≡◌, ℕ, zero, suc, ◌+◌, ◌<◌, List, [], ◌∷◌, Option, Some, None, IsSome, IfSome, length, drop, subst, sym, ◌∙◌, ap, add-one, arith}

-- the first of those left is gone with one more
drop-next : {X : Type 0} (xs ys : List X) (x : X) (k : ℕ) → drop k xs ≡ x ∷ ys → ys ≡ drop (suc k) xs
drop-next [] ys x zero is = absurd (cc)
drop-next [] ys x (suc k) is = absurd (cc)
drop-next (y ∷ xs) ys x zero is = cc
drop-next (y ∷ xs) ys x (suc k) is = drop-next xs ys x k is

-- where one is left it is taken
pub drop-popped : {X : Type 0} (xs old new : List X) (k : ℕ) (o : Option X) → old ≡ drop k xs → 0 < length old → (0 < length old → IsSome o) → IfSome o (λ x. old ≡ x ∷ new) → new ≡ drop (k + 1) xs
drop-popped xs old new k None are some found removed = absurd (cc (found some))
drop-popped xs old new k (Some x) are some found removed =
    drop-next xs new x k (sym are ∙ removed) ∙ ap (λ n. drop n xs) (sym (add-one k))

pub some_left : {X : Type 0} (xs old : List X) (k : ℕ) → old ≡ drop k xs → k < length xs → 0 < length old
some_left [] old k are less = absurd (omega (arith, less))
some_left (x ∷ xs) old zero are less = subst (λ l. 0 < length l) (sym are) (omega arith)
some_left (x ∷ xs) old (suc k) are less = some_left xs old k are (omega (arith, less))
