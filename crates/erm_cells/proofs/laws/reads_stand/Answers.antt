use Rattle.erm_cells.proofs.Staying.{read_stands}
use Rattle.erm_cells.proofs.laws.reads_stand.Goals as goal

pub returns : goal.returns
returns c core p r sound begun m = read_stands core p r sound begun m
