use Rattle.erm_safe_laws.proofs.Late.{are_late}
use Rattle.erm_safe_laws.proofs.safe_stamps_divide.Goals as goal

pub returns : goal.returns
returns c h opening snapshot certified b safe = are_late h opening snapshot certified b safe
