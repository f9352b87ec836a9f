-- One element of a list changes, and what all of them mean.
use Rattle.std.proofs.Common.{◌≡◌, ℕ, ◌<◌, List, length, map, set, get_or, sym, ap, ◌∙◌, arith}
use Rattle.std.proofs.lemmas.List.{get_or-map, length-map, map-set, set-get_or}

module _ {X Y : Type 0} (f : X → Y) (xs : List X) (means : List Y) (is : map f xs ≡ means) (i : ℕ) (d : Y) (within : i < length means) where
  -- an element means what stands in its place
  pub means_at : (x : X) → x ≡ get_or xs i x → f x ≡ get_or means i d
  means_at x at =
      let inside : i < length xs = let n = length-map xs f in let m = ap (λ (ys : List Y). length ys) is in omega (arith, n, m, within) in
      ap f at ∙ sym (get_or-map f xs i x d inside) ∙ ap (λ (ys : List Y). get_or ys i d) is

  -- another one stands there
  pub means_set : (x : X) (new : Y) → f x ≡ new → map f (set xs i x) ≡ set means i new
  means_set x new e = map-set f xs i x ∙ ap (λ (y : Y). set (map f xs) i y) e ∙ ap (λ (ys : List Y). set ys i new) is

  -- the same stands there
  pub means_still : (old x : X) → old ≡ get_or xs i old → f x ≡ f old → map f (set xs i x) ≡ means
  means_still old x at e =
      means_set x (get_or means i d) (e ∙ means_at old at) ∙ set-get_or means i d
