use Rattle.std.proofs.Common.{◌≡◌, map}
use Rattle.std.specs.Map.Iter.{deref_pair}
use Rattle.erm_model.proofs.Scans.{pair_of}
use Rattle.erm_model.proofs.map.Map.found.Given as goal

abbrev pub invariant-loop-key : goal.invariant-loop-key
invariant-loop-key l = l.found.items ≡ map pair_of (map deref_pair l.yielded)
