-- Faults that are counted.
use Rattle.std.specs.Prelude.{◌≡◌, ℕ, Result, MatchResult}
use Rattle.erm_outside.specs.Faults.{next}

-- a fault was counted exactly where the call failed
abbrev pub CountsFault : {T E : Type 0} → ℕ → ℕ → Result T E → Type 0
CountsFault old new r = MatchResult r (λ _. new ≡ old) (λ _. new ≡ next old)
