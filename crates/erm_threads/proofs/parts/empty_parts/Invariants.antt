use Rattle.std.proofs.Common.{◌≡◌, ◌≤◌, [], vec_len}
use Rattle.std.specs.List.{All}
use Rattle.erm_threads.proofs.parts.empty_parts.Given as goal

-- so many parts, without lines
abbrev pub invariant-loop : goal.invariant-loop
invariant-loop l = record {
  below : l.counter ≤ l.sessions;
  many : vec_len l.parts ≡ l.counter;
  none : All (λ p. p.items ≡ []) l.parts.items;
}
