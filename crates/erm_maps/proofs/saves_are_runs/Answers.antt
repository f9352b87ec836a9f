use Rattle.erm_maps.proofs.Kept.{IsRunOf-saving}
use Rattle.erm_maps.proofs.saves_are_runs.Goals as goal

pub returns : goal.returns
returns c = IsRunOf-saving
