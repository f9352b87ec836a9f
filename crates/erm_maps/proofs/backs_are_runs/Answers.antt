use Rattle.erm_maps.proofs.Kept.{IsRunOf-going_back}
use Rattle.erm_maps.proofs.backs_are_runs.Goals as goal

pub returns : goal.returns
returns c k steps n saved run at = IsRunOf-going_back k steps run n saved at
