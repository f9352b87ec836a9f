-- What several steps do, one after another.
use Rattle.std.specs.Prelude.{List, [], ◌∷◌}

-- what is left of a state after steps in turn, where each does this
abbrev pub in_turn : {X S : Type 0} → (X → S → S) → List X → S → S
in_turn does [] s = s
in_turn does (x ∷ xs) s = in_turn does xs (does x s)
