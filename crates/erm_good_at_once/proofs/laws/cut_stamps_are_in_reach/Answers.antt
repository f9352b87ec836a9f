use Rattle.erm_good_at_once.proofs.InReach.{cut_within}
use Rattle.erm_good_at_once.proofs.laws.cut_stamps_are_in_reach.Goals as goal

pub returns : goal.returns
returns c = cut_within
