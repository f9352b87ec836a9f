use Rattle.erm_rule.specs.Steps.{Fits}
use Rattle.erm_ring.proofs.Clearing.{ClearLoop}
use Rattle.erm_ring.proofs.turns.clear.Given as goal
use Rattle.erm_ring.specs.Took.{TookClears}

abbrev pub invariant-loop-at : goal.invariant-loop-at
invariant-loop-at g l = Fits l.t.words.shared.table_id l.p × ClearLoop l.fn.p.me.0 l.from l.to l.at l.p.me.0 × TookClears g.L.RowLaw.law l.from l.fn.p.me.0 l.p.me.0
