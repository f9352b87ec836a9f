use Rattle.erm_node.proofs.TableValues.{IsTree-ascends}
use Rattle.erm_node.proofs.laws.keys_ascend.Goals as goal

pub returns : goal.returns
returns c = IsTree-ascends
