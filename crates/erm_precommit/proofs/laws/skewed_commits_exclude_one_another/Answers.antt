use Rattle.erm_precommit.proofs.Skews.{not_both}
use Rattle.erm_precommit.proofs.laws.skewed_commits_exclude_one_another.Goals as goal

pub returns : goal.returns
returns c core p q t u sound other m n skew first second = not_both core sound p q t u other m n skew first second
