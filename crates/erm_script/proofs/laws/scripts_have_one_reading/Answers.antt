use Rattle.erm_script.specs.Script.{kept_lines}
use Rattle.erm_script.proofs.Readings.{AreScript-unique}
use Rattle.erm_script.proofs.laws.scripts_have_one_reading.Goals as goal

pub returns : goal.returns
returns c = λ g bytes names others script other. AreScript-unique g (kept_lines bytes) names others script other
