-- A stream that is read piece by piece.
use Rattle.std.specs.Prelude.{◌≡◌, ℕ, List, [], ◌∷◌, ◌++◌}
use Rattle.erm_replica.specs.Stream.{HasNext, Part, Streamed, behind, fed}

-- these parts are taken one after another
abbrev pub Reads : Streamed → List Part → Streamed → Type 0
Reads s [] t = t ≡ s
Reads s (part ∷ parts) t = HasNext s part × Reads (behind part s) parts t

-- up to where no part is next
pub record Drains (s : Streamed) (parts : List Part) (t : Streamed) : Type 0 where
  pub reads : Reads s parts t
  pub last : (part : Part) → HasNext t part → ⊥

-- Pieces are fed one after another, and behind each all parts are taken that there are.
abbrev pub FeedsAll : Streamed → List (List ℕ) → List Part → Streamed → Type 0
FeedsAll s [] parts t = (parts ≡ []) × (t ≡ s)
FeedsAll s (piece ∷ pieces) parts t = (first rest : List Part) × (u : Streamed) × Drains (fed s piece) first u × FeedsAll u pieces rest t × (parts ≡ first ++ rest)
