use Rattle.std.proofs.Common.{◌≡◌}
use Rattle.erm_make.specs.Workload.{first_names}
use Rattle.erm_make.proofs.names.names.Given as goal

abbrev pub invariant-loop-place : goal.invariant-loop-place
invariant-loop-place l = l.names.items ≡ first_names l.place
