use Rattle.erm_maps.proofs.GoingOn.{IsRunOf-on_map}
use Rattle.erm_maps.proofs.steps_on_the_map_are_runs.Goals as goal

pub returns : goal.returns
returns c = IsRunOf-on_map
