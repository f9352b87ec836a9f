-- Lists that are cut off where one goes back.
use Rattle.std.proofs.Common.{◌≡◌, refl, ℕ, zero, suc, ◌≤◌, List, [], ◌∷◌, ◌++◌, Option, Some, None, inl, inr, length, map, take, sym, ap, ◌∙◌, arith, length-append}
use Rattle.std.specs.List.{slice_get}
use Rattle.std.specs.Option.{option_map}
use Rattle.std.proofs.lemmas.List.{length-take, map-append, take-append-le, take-map}
use Rattle.std.proofs.Math.Seq.{take-length}
use Rattle.std.proofs.lemmas.Option.{slice_get_within}
use Rattle.erm_model.specs.Run.{Saving, back_to, saved_as}
use Rattle.erm_model.specs.Staying.{AreLengthsOf, fronts}
use Rattle.erm_model.proofs.Members.{slice_get-push}
use Rattle.erm_model.proofs.Savings.{saved_as-map, slice_get-take}

same_map : {X Y : Type 0} (f g : X → Y) (xs : List X) → ((k : ℕ) (x : X) → slice_get xs k ≡ Some x → f x ≡ g x) → map f xs ≡ map g xs
same_map f g [] same = refl
same_map f g (x ∷ xs) same = λ i. same zero x refl i ∷ same_map f g xs (λ k y at. same (suc k) y at) i

-- the front of a longer front
take_within : {X : Type 0} (a b : ℕ) (xs : List X) → a ≤ b → take a (take b xs) ≡ take a xs
take_within zero b xs le = refl
take_within (suc a) zero xs le = absurd (omega arith)
take_within (suc a) (suc b) [] le = refl
take_within (suc a) (suc b) (x ∷ xs) le = ap (λ rest. x ∷ rest) (take_within a b xs (omega arith))

module _ {X : Type 0} (xs : List X) (lengths : List ℕ) (are : AreLengthsOf xs lengths) where
  -- one element more
  pub fronts-push : (x : X) → fronts (xs ++ x ∷ []) lengths ≡ record { now = xs ++ x ∷ []; saved = map (λ n. take n xs) lengths }
  fronts-push x =
      ap (λ (saved : List (List X)). let left : Saving (List X) = record { now = xs ++ x ∷ []; saved = saved } in left)
      (same_map (λ n. take n (xs ++ x ∷ [])) (λ n. take n xs) lengths (λ k a at. take-append-le a xs (x ∷ []) (are.within k a at)))

  pub AreLengthsOf-push : (x : X) → AreLengthsOf (xs ++ x ∷ []) lengths
  AreLengthsOf-push x = record {
    ascend = are.ascend;
    within = λ k a at. let most = are.within k a at in let more = length-append xs (x ∷ []) in omega (arith, most, more);
  }

  -- one savepoint more
  pub fronts-save : fronts xs (lengths ++ length xs ∷ []) ≡ record { now = xs; saved = map (λ n. take n xs) lengths ++ xs ∷ [] }
  fronts-save =
      ap (λ (saved : List (List X)). let left : Saving (List X) = record { now = xs; saved = saved } in left)
      (map-append (λ n. take n xs) lengths (length xs ∷ []) ∙ ap (λ (whole : List X). map (λ n. take n xs) lengths ++ whole ∷ []) (take-length xs))

  last_ascends : (j k a b : ℕ) → j ≤ k → slice_get (lengths ++ length xs ∷ []) j ≡ Some a → slice_get (lengths ++ length xs ∷ []) k ≡ Some b → a ≤ b
  last_ascends j k a b le at_j at_k =
      elim (slice_get-push lengths (length xs) a j at_j) [
        | inl first ↦ elim (slice_get-push lengths (length xs) b k at_k) [
          | inl second ↦ are.ascend j k a b le first.1 second.1
          | inr last ↦ let most = are.within j a first.1 in omega (arith, most, last.1)
        ]
        | inr first ↦ elim (slice_get-push lengths (length xs) b k at_k) [
          | inl second ↦ absurd (omega (arith, le, first.0, second.0))
          | inr last ↦ omega (arith, first.1, last.1)
        ]
      ]

  last_within : (k a : ℕ) → slice_get (lengths ++ length xs ∷ []) k ≡ Some a → a ≤ length xs
  last_within k a at =
      elim (slice_get-push lengths (length xs) a k at) [
        | inl before ↦ are.within k a before.1
        | inr last ↦ omega (arith, last.1)
      ]

  pub AreLengthsOf-save : AreLengthsOf xs (lengths ++ length xs ∷ [])
  AreLengthsOf-save = record { ascend = last_ascends; within = last_within }

  -- those of a front
  pub AreLengthsOf-back : (n a : ℕ) → saved_as n lengths ≡ Some a → AreLengthsOf (take a xs) (take n lengths)
  AreLengthsOf-back zero a is = absurd (cc)
  AreLengthsOf-back (suc k) a is = record {
    ascend = λ i j b d le at_i at_j. are.ascend i j b d le (slice_get-take (suc k) lengths i b at_i) (slice_get-take (suc k) lengths j d at_j);
    within = λ j b at.
        let below = slice_get_within (take (suc k) lengths) j b at in
        let count = length-take (suc k) lengths in
        let least = are.ascend j k b a (omega (arith, below, count)) (slice_get-take (suc k) lengths j b at) is in
        let front = length-take a xs in
        let most = are.within k a is in
        omega (arith, least, front, most);
  }

  earlier_fronts : (n a : ℕ) → saved_as n lengths ≡ Some a → map (λ m. take m (take a xs)) (take n lengths) ≡ map (λ m. take m xs) (take n lengths)
  earlier_fronts zero a is = refl
  earlier_fronts (suc k) a is =
      same_map (λ m. take m (take a xs)) (λ m. take m xs) (take (suc k) lengths) (λ j b at.
      let below = slice_get_within (take (suc k) lengths) j b at in
      let count = length-take (suc k) lengths in
      take_within b a xs (are.ascend j k b a (omega (arith, below, count)) (slice_get-take (suc k) lengths j b at) is))

  -- back to the n-th savepoint
  pub fronts-back : (n a : ℕ) → saved_as n lengths ≡ Some a → fronts (take a xs) (take n lengths) ≡ back_to n (saved_as n (map (λ m. take m xs) lengths)) (fronts xs lengths)
  fronts-back n a is =
      ap (λ (saved : List (List X)). let left : Saving (List X) = record { now = take a xs; saved = saved } in left)
      (earlier_fronts n a is ∙ sym (take-map (λ m. take m xs) n lengths))
      ∙ sym (ap (λ (old : Option (List X)). back_to n old (fronts xs lengths)) (saved_as-map (λ m. take m xs) n lengths ∙ ap (option_map (λ m. take m xs)) is))

  pub fronts-none : (n : ℕ) → saved_as n lengths ≡ None → fronts xs lengths ≡ back_to n (saved_as n (map (λ m. take m xs) lengths)) (fronts xs lengths)
  fronts-none n is =
      sym (ap (λ (old : Option (List X)). back_to n old (fronts xs lengths)) (saved_as-map (λ m. take m xs) n lengths ∙ ap (option_map (λ m. take m xs)) is))
