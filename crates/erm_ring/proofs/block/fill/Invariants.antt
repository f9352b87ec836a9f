use Rattle.erm_rule.specs.Steps.{Fits}
use Rattle.erm_ring.proofs.Filling.{FillLoop}
use Rattle.erm_ring.proofs.block.fill.Given as goal
use Rattle.erm_rule.specs.Went.{Went}
use Rattle.erm_ring.specs.Took.{IsFillStep}

abbrev pub invariant-loop-k : goal.invariant-loop-k
invariant-loop-k g l = Fits l.t.words.shared.table_id l.p × FillLoop l.fn.p.me.0.view l.who l.words l.k l.p.me.0.view × Went g.L.RowLaw.law l.who IsFillStep l.fn.p.me.0 l.p.me.0
