use Rattle.std.proofs.Common.{arith}
use Rattle.std.proofs.lemmas.Result.{IfOk-weaker}
use Rattle.erm_beside_cases.proofs.turns.three.Goals as goal

pub returns : goal.returns
returns c = IfOk-weaker c.open.result _ _ (λ t is. (_, omega arith, omega arith, is)) c.open.ensures
