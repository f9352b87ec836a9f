use Rattle.erm_accounts.proofs.Totals.{audits_leave}
use Rattle.erm_accounts.proofs.laws.audits_leave_totals.Goals as goal

pub returns : goal.returns
returns c = audits_leave
