use Rattle.erm_tellers.proofs.laws.audits_show_totals.Goals as goal
use Rattle.erm_tellers.proofs.Placed.{audits_show}

pub returns : goal.returns
returns c = audits_show c.found_totals_are_totals.ensures c.snapshots_stand_among_commits.ensures
