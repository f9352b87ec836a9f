use Rattle.erm_maps.proofs.Kept.{IsRunOf-back_to_none}
use Rattle.erm_maps.proofs.backs_to_none_are_runs.Goals as goal

pub returns : goal.returns
returns c = IsRunOf-back_to_none
