use Rattle.std.proofs.Common.{◌≡◌}
use Rattle.std.specs.List.{flat_map}
use Rattle.erm_summary.proofs.commits.gather.Given as goal

-- the commits of the sessions so far, and their snapshots that ended
abbrev pub invariant-loop-session : goal.invariant-loop-session
invariant-loop-session l = record {
  commits : l.placed.items ≡ flat_map (λ s. s.commits.items) l.yielded;
  ended : l.ended.items ≡ flat_map (λ s. s.ended.items) l.yielded;
}
