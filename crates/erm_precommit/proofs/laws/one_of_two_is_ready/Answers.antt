use Rattle.erm_precommit.proofs.Skews.{not_both_ready}
use Rattle.erm_precommit.proofs.laws.one_of_two_is_ready.Goals as goal

pub returns : goal.returns
returns c core p q sound other skew first second = not_both_ready core sound p q other skew first second
