use Rattle.erm_machine.proofs.Local.{guards_local}
use Rattle.erm_machine.proofs.laws.guards_read_no_object.Goals as goal

pub returns : goal.returns
returns c seat kind found s t x = guards_local seat kind found s t x
