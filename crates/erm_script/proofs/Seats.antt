-- Seats of sessions, by the place of a name among names.
use Rattle.std.proofs.Common.{◌≡◌, ℕ, suc, zero, ◌+◌, ◌-◌, ◌≤◌, nat_eq, Bool, true, false, not, cond, List, [], ◌∷◌, length, map, get_or, Some, None, ap, sym, ◌∙◌, inl, inr, arith, refl}
use Rattle.std.specs.List.{list_any, position, position_or_len}
use Rattle.std.proofs.lemmas.List.{length-map}
use Rattle.std.specs.Cmp.Lexicographic.{pointwise}
use Rattle.std.proofs.lemmas.Bool.{false≢true}
use Rattle.std.proofs.lemmas.Bool.Decides.{nat_tests, Decides-eqb}
use Rattle.std.proofs.lemmas.List.Quantifiers.{position-Some}
use Rattle.std.proofs.lemmas.List.Sums.{fails_before_first}
use Rattle.std.proofs.lemmas.Option.{slice_get-get_or, get_or_from_slice_get, slice_get_within}
use Rattle.std.proofs.lemmas.Slice.Eq.{slice_eq-Decides}
use Rattle.erm_model.specs.Member.{◌∈◌}
use Rattle.erm_script.specs.Seats.{IsSeatOf}
use Rattle.erm_script.proofs.Words.{alike}

-- a test passes first at the place at which it passes first over what a function makes of each
pub position-map : {X : Type 0} (f : X → List ℕ) (p : List ℕ → Bool) (xs : List X) → position (λ x. p (f x)) xs ≡ position p (map f xs)
position-map f p xs = rw (length-map xs f) (rw (first f p xs) refl)
  where
    first : {X : Type 0} (f : X → List ℕ) (p : List ℕ → Bool) (xs : List X) → position_or_len p (map f xs) ≡ position_or_len (λ x. p (f x)) xs
    first f p [] = refl
    first f p (x ∷ xs) = ap (λ n. cond (not (p (f x))) (1 + n) 0) (first f p xs)

-- a name at a place has the next seat
pub seat_at : (most : ℕ) (names : List (List ℕ)) (name : List ℕ) (i : ℕ) → position (λ known. pointwise nat_eq name known) names ≡ Some i → IsSeatOf most name names (i + 1)
seat_at most names name i found =
    let at = position-Some (λ known. pointwise nat_eq name known) names i [] found in
    let place : i + 1 - 1 ≡ i = omega arith in
    let same : name ≡ get_or names i [] = alike name (get_or names i []) (pointwise nat_eq name (get_or names i [])) refl at.1 in
    inl (omega arith, rw place (slice_get-get_or names i [] at.0 ∙ ap (λ (n : List ℕ). Some n) (sym same)))

-- a name at no place is new
pub none_at : (names : List (List ℕ)) (name : List ℕ) → position (λ known. pointwise nat_eq name known) names ≡ None → name ∈ names → ⊥
none_at names name none m =
    let past : length names ≤ position_or_len (λ known. pointwise nat_eq name known) names = grind (arith, nat_tests) in
    let within = slice_get_within names m.0 name m.1 in
    let fails = fails_before_first (λ known. pointwise nat_eq name known) names m.0 [] (omega arith) in
    let here : get_or names m.0 [] ≡ name = get_or_from_slice_get names m.0 name [] m.1 in
    let passes = (slice_eq-Decides Decides-eqb name (get_or names m.0 []) (pointwise nat_eq name (get_or names m.0 [])) refl).1 (sym here) in
    false≢true (sym fails ∙ passes)

-- no test for a new name passes
pub is_unnamed : {X : Type 0} (f : X → List ℕ) (name : List ℕ) (xs : List X) → (name ∈ map f xs → ⊥) → list_any (λ x. pointwise nat_eq name (f x)) xs ≡ false
is_unnamed f name [] new = refl
is_unnamed f name (x ∷ xs) new = by_test (is_unnamed f name xs (λ m. new (suc m.0, m.1))) (pointwise nat_eq name (f x)) refl
  where
    by_test : list_any (λ x. pointwise nat_eq name (f x)) xs ≡ false → (passes : Bool) → pointwise nat_eq name (f x) ≡ passes → list_any (λ x. pointwise nat_eq name (f x)) (x ∷ xs) ≡ false
    by_test rest true is = absurd (new (zero, ap (λ (n : List ℕ). Some n) (sym (alike name (f x) (pointwise nat_eq name (f x)) refl is))))
    by_test rest false is = rw is rest

-- a session with a seat is not one too many
pub seat_fits : (most : ℕ) (name : List ℕ) (names : List (List ℕ)) (seat : ℕ) → IsSeatOf most name names seat → (name ∈ names → ⊥) → most ≤ length names → ⊥
seat_fits most name names seat (inl known) new full = new (seat - 1, known.1)
seat_fits most name names seat (inr next) new full = let few = next.1 in absurd (omega arith)
