use Rattle.erm_maps.proofs.GoingOn.{WasRun-from}
use Rattle.erm_maps.proofs.runs_are_over.Goals as goal

pub returns : goal.returns
returns c = WasRun-from
