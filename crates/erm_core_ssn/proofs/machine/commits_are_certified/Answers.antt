use Rattle.erm_core_ssn.proofs.MarksCertified.{certified}
use Rattle.erm_core_ssn.proofs.machine.commits_are_certified.Goals as goal

pub returns : goal.returns
returns c core sound = certified core sound
