use Rattle.erm_shipped.proofs.Kept.{divide}
use Rattle.erm_shipped.proofs.laws.safe_stamps_divide.Goals as goal

pub returns : goal.returns
returns c = divide
