use Rattle.erm_rule.proofs.Handing.{hands_out, none_given}
use Rattle.erm_rule.proofs.laws.sessions_are_handed_out.Goals as goal

pub returns-clause-first : goal.returns-clause-first
returns-clause-first c = none_given

pub returns-clause-more : goal.returns-clause-more
returns-clause-more c o given none low = hands_out o given none low
