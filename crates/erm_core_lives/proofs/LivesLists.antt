-- What stands in a list that grows at its end, and ranges that ascend.
use Rattle.std.proofs.Common.{◌≡◌, ℕ, zero, suc, ◌+◌, ◌≤◌, List, [], ◌∷◌, ◌++◌, Some, refl, arith}
use Rattle.std.specs.List.{slice_get}
use Rattle.erm_model.specs.Member.{◌∈◌}
use Rattle.erm_machine.specs.declared.version.Span.{Span}
use Rattle.erm_machine.specs.Ranges.{EndToEnd}

module _ {X : Type 0} where
  -- the last one stands there, and those before
  pub ∈-last : (xs : List X) (x : X) → x ∈ (xs ++ x ∷ [])
  ∈-last [] x = (zero, refl)
  ∈-last (y ∷ xs) x = let m = ∈-last xs x in (suc m.0, m.1)

  pub ∈-front : (xs : List X) (y x : X) → x ∈ xs → x ∈ (xs ++ y ∷ [])
  ∈-front xs y x m = at xs y x m.0 m.1
    where
      at : (xs : List X) (y x : X) (k : ℕ) → slice_get xs k ≡ Some x → x ∈ (xs ++ y ∷ [])
      at [] y x k e = absurd (cc)
      at (z ∷ xs) y x zero e = (zero, e)
      at (z ∷ xs) y x (suc k) e = let m = at xs y x k e in (suc m.0, m.1)

-- ranges that lie end to end ascend
pub end_to_end_ascends : (from to : ℕ) (rs : List Span) → EndToEnd from rs to → from ≤ to
end_to_end_ascends from to [] e = omega (arith, e)
end_to_end_ascends from to (r ∷ rs) e = let rest = end_to_end_ascends (from + r.size) to rs e.1 in omega (arith, rest)
