use Rattle.erm_good_at_once.proofs.OfCases.{gap_is_allowed}
use Rattle.erm_good_at_once.proofs.laws.gaps_are_allowed.Goals as goal

pub returns : goal.returns
returns c = gap_is_allowed
