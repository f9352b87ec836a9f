use Rattle.erm_cells.proofs.Staying.{rows}
use Rattle.erm_cells.proofs.laws.rows_stay.Goals as goal

pub returns : goal.returns
returns c core after p k oid e = rows core after p k oid e
