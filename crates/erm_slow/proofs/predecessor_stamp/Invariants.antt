use Rattle.erm_slow.proofs.Scans.{IsGreatestSoFar}
use Rattle.erm_slow.proofs.predecessor_stamp.Given as goal

abbrev pub invariant-loop-u : goal.invariant-loop-u
invariant-loop-u l = IsGreatestSoFar l.history l.t l.u-index l.greatest
