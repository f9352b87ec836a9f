use Rattle.erm_core_met.proofs.Others.{owner_is}
use Rattle.erm_core_met.proofs.owners_are_in_progress.Goals as goal

pub returns : goal.returns
returns g c oid owner sound known positive is = owner_is c oid owner sound known positive is
