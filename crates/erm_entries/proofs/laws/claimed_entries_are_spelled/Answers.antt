use Rattle.erm_entries.proofs.Spelled.{claimed_entry}
use Rattle.erm_entries.proofs.laws.claimed_entries_are_spelled.Goals as goal

pub returns-clause-claimed : goal.returns-clause-claimed
returns-clause-claimed c word seat number few = claimed_entry word seat number few
