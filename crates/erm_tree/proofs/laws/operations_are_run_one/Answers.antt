use Rattle.erm_tree.proofs.Operations.{AreRunOne-called, Called-ready}
use Rattle.erm_tree.proofs.laws.operations_are_run_one.Goals as goal

pub returns-clause-run : goal.returns-clause-run
returns-clause-run g c law s t calls lawful called = AreRunOne-called g.T.RowRead.face law s t calls lawful called

pub returns-clause-ready : goal.returns-clause-ready
returns-clause-ready g c s t calls ready called = Called-ready g.T.RowRead.face calls s t ready called
