use Rattle.erm_good_at_once.proofs.OfCases.{begun_at_one_met, begun_below_its_owner}
use Rattle.erm_good_at_once.proofs.laws.clauses_at_once_are_needed.Goals as goal

pub returns-clause-met : goal.returns-clause-met
returns-clause-met c = begun_at_one_met

pub returns-clause-named : goal.returns-clause-named
returns-clause-named c = begun_below_its_owner
