use Rattle.erm_told.proofs.Cutting.{parts_few}
use Rattle.erm_told.proofs.parts_cut_few.Goals as goal

pub returns : goal.returns
returns c = parts_few c.executions_go_on.ensures
