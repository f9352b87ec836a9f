use Rattle.erm_core_steps.proofs.Unseen.{unseen_both, unseen_none}
use Rattle.erm_core_steps.proofs.unseen_steps_go_on.Goals as goal

pub returns-clause-none : goal.returns-clause-none
returns-clause-none g sessions seat c = unseen_none sessions seat c

pub returns-clause-both : goal.returns-clause-both
returns-clause-both g sessions seat c d e first second = unseen_both sessions seat c d e first second
