-- Calls that are counted, and which of them fail.
use Rattle.std.specs.Prelude.{◌≡◌, ◌<◌, ◌⊎◌, ℕ, List, [], Contains, Option, None, IsSomeAnd, Result, MatchResult}
use Rattle.erm_outside.specs.Faults.{next}

-- how many calls there were, which of them are to fail, by their numbers from 1, behind which number all are, and how
-- many failed
pub record CallState : Type 0 where
  pub count : ℕ
  pub failing : List ℕ
  pub last : Option ℕ
  pub faults : ℕ

-- no call yet, and none that is to fail
abbrev pub no_calls : CallState
no_calls = record { count = 0; failing = []; last = None; faults = 0 }

-- the next call is to fail
abbrev pub IsToFail : CallState → Type 0
IsToFail calls = Contains calls.failing (next calls.count) ⊎ IsSomeAnd calls.last (λ last. last < next calls.count)

-- after a call that went well
abbrev pub with_success : CallState → CallState
with_success calls = record calls { count = next calls.count }

-- after a call that failed
abbrev pub with_fault : CallState → CallState
with_fault calls = record calls { count = next calls.count; faults = next calls.faults }

-- one call was counted, and a fault exactly where it failed
abbrev pub CountsCall : {T E : Type 0} → CallState → CallState → Result T E → Type 0
CountsCall old new r = MatchResult r (λ _. new ≡ with_success old) (λ _. new ≡ with_fault old)
