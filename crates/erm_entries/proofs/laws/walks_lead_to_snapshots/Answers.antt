use Rattle.erm_entries.proofs.Owners.{leads}
use Rattle.erm_entries.proofs.laws.walks_lead_to_snapshots.Goals as goal

pub returns : goal.returns
returns c core who version head sound at = leads core who version head sound at
