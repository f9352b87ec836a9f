use Rattle.erm_told_order.proofs.Safe.{replied_safely}
use Rattle.erm_told_order.proofs.told_worlds_have_safe_snapshots.Goals as goal

pub returns : goal.returns
returns c = replied_safely c.safe_stamps_divide.ensures c.safe_replies_are_snapshots.ensures
