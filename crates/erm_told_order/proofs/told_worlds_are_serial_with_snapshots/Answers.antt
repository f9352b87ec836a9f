use Rattle.erm_told_order.proofs.Among.{serial_among}
use Rattle.erm_told_order.proofs.told_worlds_are_serial_with_snapshots.Goals as goal

pub returns : goal.returns
returns c = serial_among c.told_worlds_are_serial.ensures c.told_worlds_have_safe_snapshots.ensures c.safe_snapshots_run_among_commits.ensures
