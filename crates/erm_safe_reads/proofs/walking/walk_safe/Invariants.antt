use Rattle.erm_rule.specs.Hands.{in_hand}
use Rattle.erm_rule.specs.Steps.{Fits}
use Rattle.erm_rule.specs.Views.{part_of}
use Rattle.erm_safe_reads.proofs.Walked.{WalksOn}
use Rattle.erm_safe_reads.proofs.walking.walk_safe.Given as goal
use Rattle.erm_rule.specs.Went.{IsLoadStep, Went}

abbrev pub invariant-loop-who : goal.invariant-loop-who
invariant-loop-who g l = Fits l.t.words.shared.table_id l.p × WalksOn l.fn.p.me.0.view l.who l.at l.p.me.0.view × Went g.L.RowLaw.law l.who IsLoadStep l.fn.p.me.0 l.p.me.0

abbrev pub decreases-loop-who : goal.decreases-loop-who
decreases-loop-who g l = (in_hand (part_of l.p.me.0.view l.who).task).place
