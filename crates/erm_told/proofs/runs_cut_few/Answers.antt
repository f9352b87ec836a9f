use Rattle.erm_told.proofs.Cutting.{runs_few}
use Rattle.erm_told.proofs.runs_cut_few.Goals as goal

pub returns : goal.returns
returns c = runs_few c.executions_go_on.ensures
