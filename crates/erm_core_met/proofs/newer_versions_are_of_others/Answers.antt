use Rattle.erm_core_met.proofs.Others.{newer_is}
use Rattle.erm_core_met.proofs.newer_versions_are_of_others.Goals as goal

pub returns : goal.returns
returns g c seat oid place sound known within busy undecided above = newer_is c seat oid place sound known within busy undecided above
