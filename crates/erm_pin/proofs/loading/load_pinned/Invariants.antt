use Rattle.erm_machine.specs.declared.limits.TheConstants.{FLUSH_SEAT}
use Rattle.erm_rule.specs.Steps.{Fits}
use Rattle.erm_rule.specs.Went.{IsLoadStep, Went}
use Rattle.erm_pin.proofs.RowWords.{RowLoop}
use Rattle.erm_pin.proofs.loading.load_pinned.Given as goal

abbrev pub invariant-loop-k : goal.invariant-loop-k
invariant-loop-k g l = Fits l.t.words.shared.table_id l.p × RowLoop l.fn.p.me.0 l.k l.row l.p.me.0 × Went g.L.RowLaw.law FLUSH_SEAT IsLoadStep l.fn.p.me.0 l.p.me.0
