use Rattle.erm_follow.proofs.Fronts.{order_so_far}
use Rattle.erm_follow.proofs.laws.lines_are_the_order_so_far.Goals as goal

pub returns : goal.returns
returns c = order_so_far
