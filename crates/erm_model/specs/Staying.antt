-- What stays of what a transaction does, once it has gone back wherever it did: of its operations, its lines, or their places.
use Rattle.std.specs.Prelude.{◌≡◌, ℕ, ◌≤◌, List, [], ◌∷◌, ◌++◌, length, map, take, Option, Some, None}
use Rattle.std.specs.List.{slice_get}
use Rattle.erm_model.specs.declared.operation.Op.{Op}
use Rattle.erm_model.specs.InTurn.{in_turn}
use Rattle.erm_model.specs.Run.{Saving, after_by, begins}

-- One thing more, which is this operation or none: one on the map stays, a savepoint saves the list of what stays, and a way back
-- takes the list that was saved. What is no operation isn't listed.
abbrev pub stays_by : {X : Type 0} → Option Op → X → Saving (List X) → Saving (List X)
stays_by (Some op) x s = after_by (λ _ xs. xs ++ x ∷ []) op s
stays_by None x s = s

-- things one after another
abbrev pub staying_from : {X : Type 0} → (X → Option Op) → List X → Saving (List X) → Saving (List X)
staying_from op_of xs s = in_turn (λ x. stays_by (op_of x) x) xs s

-- what stays of all that a transaction did, in its order
abbrev pub staying : {X : Type 0} → (X → Option Op) → List X → List X
staying op_of xs = (staying_from op_of xs (begins [])).now

-- how many savepoints it holds then
abbrev pub held_by : {X : Type 0} → (X → Option Op) → List X → ℕ
held_by op_of xs = length (staying_from op_of xs (begins [])).saved

-- A list, and how long it was at each savepoint: it stands for itself, and its fronts of these lengths for what was saved.
abbrev pub fronts : {X : Type 0} → List X → List ℕ → Saving (List X)
fronts xs lengths = record { now = xs; saved = map (λ n. take n xs) lengths }

-- the lengths ascend, up to the list's own
pub record AreLengthsOf {X : Type 0} (xs : List X) (lengths : List ℕ) : Type 0 where
  pub ascend : (j k a b : ℕ) → j ≤ k → slice_get lengths j ≡ Some a → slice_get lengths k ≡ Some b → a ≤ b
  pub within : (k a : ℕ) → slice_get lengths k ≡ Some a → a ≤ length xs
