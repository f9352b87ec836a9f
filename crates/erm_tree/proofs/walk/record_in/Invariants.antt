use Rattle.std.proofs.Common.{◌≡◌, drop}
use Rattle.std.specs.Prelude.{nat_eq}
use Rattle.std.specs.Map.{lookup}
use Rattle.erm_tree.proofs.walk.record_in.Given as goal

abbrev pub invariant-loop-pair : goal.invariant-loop-pair
invariant-loop-pair l = lookup (nat_eq l.key) (drop l.pair-index l.pairs) ≡ lookup (nat_eq l.key) l.pairs
