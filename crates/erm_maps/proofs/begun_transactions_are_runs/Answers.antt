use Rattle.erm_maps.proofs.GoingOn.{IsRunOf-begun}
use Rattle.erm_maps.proofs.begun_transactions_are_runs.Goals as goal

pub returns : goal.returns
returns c = IsRunOf-begun
