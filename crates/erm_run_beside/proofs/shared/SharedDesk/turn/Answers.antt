use Rattle.erm_run_beside.proofs.Failed.{turn_stays}
use Rattle.erm_run_beside.proofs.shared.SharedDesk.turn.Goals as goal

pub invariant_of-self-in_default-2 : goal.invariant_of-self-in_default-2
invariant_of-self-in_default-2 g c = record { failed = λ some. turn_stays g.L.RowLaw.law g.B.Naming.start c.turn-answer.result c.args.self.now.desk c.turn-answer.new.self c.turn-answer.ensures.turns (c.args.self.now.failed some) }
