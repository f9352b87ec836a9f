use Rattle.erm_bank.proofs.Shown.{show_what_was}
use Rattle.erm_bank.proofs.laws.audits_show_what_was.Goals as goal

pub returns : goal.returns
returns c = show_what_was c.found_totals_are_totals.ensures
