use Rattle.erm_good_report.proofs.InReach.{cut_in_reach, good_in_reach}
use Rattle.erm_good_report.proofs.laws.stamps_told_are_in_reach.Goals as goal

pub returns-clause-good : goal.returns-clause-good
returns-clause-good c = good_in_reach

pub returns-clause-cut : goal.returns-clause-cut
returns-clause-cut c = cut_in_reach
