use Rattle.erm_cells.proofs.Alone.{is_alone}
use Rattle.erm_cells.proofs.laws.own_cells_are_alone.Goals as goal

pub returns : goal.returns
returns c core p k own sound seat has = is_alone core p k own sound seat has
