use Rattle.erm_rule.specs.Steps.{Fits}
use Rattle.erm_rule.specs.Views.{part_of}
use Rattle.erm_cells.proofs.Loading.{LoadLoop, RowOfBase}
use Rattle.erm_cells.proofs.rows.load_base.Given as goal
use Rattle.erm_rule.specs.Went.{Went, IsLoadStep}

abbrev pub invariant-loop-k : goal.invariant-loop-k
invariant-loop-k g l = Fits l.t.words.shared.table_id l.p × LoadLoop l.fn.p.me.0.view l.k (RowOfBase (part_of l.fn.p.me.0.view l.who)) l.row l.p.me.0.view × Went g.L.RowLaw.law l.who IsLoadStep l.fn.p.me.0 l.p.me.0
