use Rattle.std.proofs.Common.{◌≡◌, map}
use Rattle.std.specs.Map.Iter.{deref_pair}
use Rattle.erm_model.specs.Database.{entries_of}
use Rattle.erm_model.proofs.map.Map.pairs.Given as goal

abbrev pub invariant-loop-key : goal.invariant-loop-key
invariant-loop-key l = entries_of l.pairs.items ≡ map deref_pair l.yielded
