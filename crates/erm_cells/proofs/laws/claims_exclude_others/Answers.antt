use Rattle.erm_machine.proofs.Holders.{held_once}
use Rattle.erm_cells.proofs.laws.claims_exclude_others.Goals as goal

pub returns : goal.returns
returns c core p q oid sound mine its = held_once core p q oid sound mine its
