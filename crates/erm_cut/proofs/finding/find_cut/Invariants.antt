use Rattle.erm_rule.specs.Hands.{in_hand}
use Rattle.erm_rule.specs.Steps.{Fits}
use Rattle.erm_rule.specs.Views.{part_of}
use Rattle.erm_cut.proofs.Walk.{IsWalking}
use Rattle.erm_cut.proofs.finding.find_cut.Given as goal
use Rattle.erm_rule.specs.Went.{IsLoadStep, Went}

abbrev pub invariant-walk : goal.invariant-walk
invariant-walk g l = record { fits : Fits l.t.words.shared.table_id l.p; walking : IsWalking l.fn.p.me.0.view l.who l.horizon l.cell l.p.me.0.view; loads : Went g.L.RowLaw.law l.who IsLoadStep l.fn.p.me.0 l.p.me.0 }

abbrev pub decreases-walk : goal.decreases-walk
decreases-walk g l = (in_hand (part_of l.p.me.0.view l.who).task).place
