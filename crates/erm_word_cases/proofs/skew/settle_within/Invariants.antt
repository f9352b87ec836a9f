use Rattle.erm_rule.specs.Steps.{Fits}
use Rattle.erm_word_cases.proofs.Skewing.{IsSettling}
use Rattle.erm_word_cases.proofs.skew.settle_within.Given as goal

-- the session settles
abbrev pub invariant-loop : goal.invariant-loop
invariant-loop l = Fits l.t.words.shared.table_id l.p × IsSettling l.fn.s l.fn.p.me.0.view l.s l.p.me.0.view
