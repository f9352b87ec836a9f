-- Membership in a list, and keys that tell a list's elements apart.
use Rattle.std.proofs.Common.{◌≡◌, ℕ, zero, suc, Bool, List, [], ◌∷◌, Some, slice_get, filter, Contains, IsPermutation, refl, sym, ap, ◌∙◌, arith}
use Rattle.std.proofs.lemmas.Bool.{cond_both}
use Rattle.std.proofs.lemmas.Option.{get_or_from_slice_get, slice_get_within, slice_get-get_or}
use Rattle.std.proofs.lemmas.List.Sorted.{Contains-permutation}
use Rattle.erm_model.specs.Member.{◌∈◌}
use Rattle.erm_machine.proofs.Listed.{∈-filter}

-- what stands in a list stands in each order of it
pub ∈-permutation : {X : Type 0} (x : X) (xs ys : List X) → IsPermutation xs ys → x ∈ xs → x ∈ ys
∈-permutation x xs ys p h =
    let there : Contains ys x = Contains-permutation xs ys x p (h.0, slice_get_within xs h.0 x h.1, get_or_from_slice_get xs h.0 x x h.1) in
    (there.0, slice_get-get_or ys there.0 x there.1 ∙ ap Some there.2)

-- elements with one key stand at one place
abbrev pub TellsApart : {X : Type 0} → (X → ℕ) → List X → Type 0
TellsApart {X} key xs = (i j : ℕ) (x y : X) → slice_get xs i ≡ Some x → slice_get xs j ≡ Some y → key x ≡ key y → i ≡ j

-- elements with one key are one
pub one_element : {X : Type 0} (key : X → ℕ) (xs : List X) → TellsApart key xs → (x y : X) → x ∈ xs → y ∈ xs → key x ≡ key y → x ≡ y
one_element key xs apart x y at_x at_y same =
    let place : at_x.0 ≡ at_y.0 = apart at_x.0 at_y.0 x y at_x.1 at_y.1 same in
    let at_first = at_x.1 in
    let at_second = at_y.1 in
    cc

pub TellsApart-tail : {X : Type 0} (key : X → ℕ) (x : X) (xs : List X) → TellsApart key (x ∷ xs) → TellsApart key xs
TellsApart-tail key x xs apart i j y z at_i at_j same = omega (arith, apart (suc i) (suc j) y z at_i at_j same)

pub TellsApart-head : {X : Type 0} (key : X → ℕ) (x : X) (xs : List X) → TellsApart key (x ∷ xs) → (y : X) → y ∈ xs → key x ≡ key y → ⊥
TellsApart-head key x xs apart y h same = omega (arith, apart zero (suc h.0) x y refl h.1 same)

pub TellsApart-cons : {X : Type 0} (key : X → ℕ) (x : X) (xs : List X) → TellsApart key xs → ((y : X) → y ∈ xs → key x ≡ key y → ⊥) → TellsApart key (x ∷ xs)
TellsApart-cons key x xs apart other zero zero y z at_i at_j same = refl
TellsApart-cons key x xs apart other zero (suc j) y z at_i at_j same =
    let e : x ≡ y = cc in absurd (other z (j, at_j) (ap key e ∙ same))
TellsApart-cons key x xs apart other (suc i) zero y z at_i at_j same =
    let e : x ≡ z = cc in absurd (other y (i, at_i) (ap key e ∙ sym same))
TellsApart-cons key x xs apart other (suc i) (suc j) y z at_i at_j same =
    ap suc (apart i j y z at_i at_j same)

pub TellsApart-filter : {X : Type 0} (key : X → ℕ) (p : X → Bool) (xs : List X) → TellsApart key xs → TellsApart key (filter p xs)
TellsApart-filter key p [] apart = apart
TellsApart-filter key p (x ∷ xs) apart =
    let kept = TellsApart-filter key p xs (TellsApart-tail key x xs apart) in
    cond_both (p x) (x ∷ filter p xs) (filter p xs) (λ l. TellsApart key l)
    (λ _. TellsApart-cons key x (filter p xs) kept (λ y there. TellsApart-head key x xs apart y (∈-filter p y xs there).0))
    (λ _. kept)
