use Rattle.erm_rule.specs.Steps.{Fits}
use Rattle.erm_rule.specs.Went.{IsLoadStep, Went}
use Rattle.erm_safe_reads.proofs.Loaded.{SafeLoop}
use Rattle.erm_safe_reads.proofs.rows.load_safe_row.Given as goal

abbrev pub invariant-loop-k : goal.invariant-loop-k
invariant-loop-k g l = Fits l.t.words.shared.table_id l.p × SafeLoop l.fn.p.me.0 l.who l.k l.row l.p.me.0 × Went g.L.RowLaw.law l.who IsLoadStep l.fn.p.me.0 l.p.me.0
