-- Membership in lists: with one more element, filtered, mapped, one behind the other.
use Rattle.std.proofs.Common.{◌≡◌, ℕ, zero, suc, ◌⊎◌, Bool, true, false, cond, List, [], ◌∷◌, ◌++◌, Some, slice_get, filter, map, option_map, refl, sym, ap, ◌∙◌, subst, inl, inr, ⊎_elim}
use Rattle.std.proofs.lemmas.Option.{slice_get-map}
use Rattle.erm_model.specs.Member.{◌∈◌}
use Rattle.erm_model.proofs.Members.{none_in_nil, ∈-behind}

-- what stands in a list with one more element in front
pub ∈-head : {X : Type 0} (x : X) (xs : List X) → x ∈ (x ∷ xs)
∈-head x xs = (zero, refl)

-- the first, or one behind it
place_cases : {X : Type 0} (x y : X) (xs : List X) (k : ℕ) → slice_get (y ∷ xs) k ≡ Some x → (y ≡ x) ⊎ (x ∈ xs)
place_cases x y xs zero e = inl cc
place_cases x y xs (suc k) e = inr (k, e)

pub ∈-cons : {X : Type 0} (x y : X) (xs : List X) → x ∈ (y ∷ xs) → (y ≡ x) ⊎ (x ∈ xs)
∈-cons x y xs h = place_cases x y xs h.0 h.1

-- what stands in what a filter keeps
kept_cases : {X : Type 0} (b : Bool) (x y : X) (kept : List X) → x ∈ cond b (y ∷ kept) kept → ((b ≡ true) × (y ≡ x)) ⊎ (x ∈ kept)
kept_cases true x y kept h =
    ⊎_elim (λ (e : y ≡ x). inl (refl, e)) (λ (there : x ∈ kept). inr there) (∈-cons x y kept h)
kept_cases false x y kept h = inr h

pub ∈-filter : {X : Type 0} (p : X → Bool) (x : X) (xs : List X) → x ∈ filter p xs → (x ∈ xs) × (p x ≡ true)
∈-filter p x [] h = absurd (none_in_nil x h)
∈-filter p x (y ∷ ys) h =
    ⊎_elim
    (λ (e : (p y ≡ true) × (y ≡ x)). (subst (λ v. v ∈ (y ∷ ys)) e.1 (∈-head y ys), subst (λ v. p v ≡ true) e.1 e.0))
    (λ (there : x ∈ filter p ys). (∈-behind y ys x (∈-filter p x ys there).0, (∈-filter p x ys there).1))
    (kept_cases (p y) x y (filter p ys) h)

keeps_head : {X : Type 0} (b : Bool) (y : X) (kept : List X) → b ≡ true → y ∈ cond b (y ∷ kept) kept
keeps_head true y kept e = ∈-head y kept
keeps_head false y kept e = cc

keeps_tail : {X : Type 0} (b : Bool) (x y : X) (kept : List X) → x ∈ kept → x ∈ cond b (y ∷ kept) kept
keeps_tail true x y kept h = ∈-behind y kept x h
keeps_tail false x y kept h = h

pub ∈-filter_from : {X : Type 0} (p : X → Bool) (x : X) (xs : List X) → x ∈ xs → p x ≡ true → x ∈ filter p xs
∈-filter_from p x [] h passes = absurd (none_in_nil x h)
∈-filter_from p x (y ∷ ys) h passes =
    ⊎_elim
    (λ (e : y ≡ x). subst (λ v. v ∈ filter p (y ∷ ys)) e (keeps_head (p y) y (filter p ys) (subst (λ v. p v ≡ true) (sym e) passes)))
    (λ (there : x ∈ ys). keeps_tail (p y) x y (filter p ys) (∈-filter_from p x ys there passes))
    (∈-cons x y ys h)

-- what stands in a list that is mapped
pub ∈-map : {X Y : Type 0} (f : X → Y) (xs : List X) (y : Y) → y ∈ map f xs → (x : X) × (x ∈ xs) × (f x ≡ y)
∈-map f [] y m = absurd (none_in_nil y m)
∈-map f (x ∷ xs) y m =
    ⊎_elim
    (λ (e : f x ≡ y). (x, ∈-head x xs, e))
    (λ (there : y ∈ map f xs). let r = ∈-map f xs y there in (r.0, ∈-behind x xs r.0 r.1, r.2))
    (∈-cons y (f x) (map f xs) m)

pub ∈-map_from : {X Y : Type 0} (f : X → Y) (xs : List X) (x : X) → x ∈ xs → f x ∈ map f xs
∈-map_from f xs x m = (m.0, slice_get-map f xs m.0 ∙ ap (option_map f) m.1)

-- what stands in two lists, one behind the other
pub ∈-either : {X : Type 0} (xs ys : List X) (x : X) → x ∈ (xs ++ ys) → (x ∈ xs) ⊎ (x ∈ ys)
∈-either [] ys x m = inr m
∈-either (z ∷ xs) ys x m =
    ⊎_elim
    (λ (e : z ≡ x). inl (subst (λ v. v ∈ (z ∷ xs)) e (∈-head z xs)))
    (λ (there : x ∈ (xs ++ ys)). ⊎_elim (λ (h : x ∈ xs). inl (∈-behind z xs x h)) (λ (h : x ∈ ys). inr h) (∈-either xs ys x there))
    (∈-cons x z (xs ++ ys) m)

pub ∈-second : {X : Type 0} (xs ys : List X) (x : X) → x ∈ ys → x ∈ (xs ++ ys)
∈-second [] ys x m = m
∈-second (z ∷ xs) ys x m = ∈-behind z (xs ++ ys) x (∈-second xs ys x m)

pub ∈-first : {X : Type 0} (xs ys : List X) (x : X) → x ∈ xs → x ∈ (xs ++ ys)
∈-first [] ys x m = absurd (none_in_nil x m)
∈-first (z ∷ xs) ys x m =
    ⊎_elim
    (λ (e : z ≡ x). subst (λ v. v ∈ (z ∷ (xs ++ ys))) e (∈-head z (xs ++ ys)))
    (λ (there : x ∈ xs). ∈-behind z (xs ++ ys) x (∈-first xs ys x there))
    (∈-cons x z xs m)
