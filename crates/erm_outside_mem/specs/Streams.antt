-- Streams in memory, as their callers see them.
use Rattle.std.specs.Prelude.{ℕ, List}
use Rattle.erm_outside_mem.specs.Calls.{CallState}

-- the bytes that are left to take, at most how many a call takes, and the calls
pub record SourceState : Type 0 where
  pub left : List ℕ
  pub per_call : ℕ
  pub calls : CallState

-- the bytes that were put, how many there may be in all without more memory, at most how many a call puts, and the calls
pub record SinkState : Type 0 where
  pub written : List ℕ
  pub room : ℕ
  pub per_call : ℕ
  pub calls : CallState
