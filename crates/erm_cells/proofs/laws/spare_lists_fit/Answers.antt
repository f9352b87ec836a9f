use Rattle.erm_cells.proofs.Spares.{spares_fit}
use Rattle.erm_cells.proofs.laws.spare_lists_fit.Goals as goal

pub returns : goal.returns
returns c core p sound limit seat = spares_fit core p sound limit seat
