use Rattle.erm_entries.proofs.Owners.{owner_is, number_is, holder_is}
use Rattle.erm_entries.proofs.laws.entries_tell_their_owners.Goals as goal

pub returns-clause-owner : goal.returns-clause-owner
returns-clause-owner c core q oid sound holds = owner_is core q oid sound holds

pub returns-clause-number : goal.returns-clause-number
returns-clause-number c core q oid sound holds = number_is core q oid sound holds

pub returns-clause-holder : goal.returns-clause-holder
returns-clause-holder c core q oid sound known positive is = holder_is core q oid sound known positive is
