use Rattle.erm_bank.proofs.Shown.{stand_in_order}
use Rattle.erm_bank.proofs.laws.audits_stand_in_order.Goals as goal

pub returns : goal.returns
returns c = stand_in_order c.audits_show_totals.ensures
