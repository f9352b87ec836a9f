use Rattle.std.proofs.Common.{refl}
use Rattle.erm_client_beside.proofs.back.take_one.Goals as goal

pub returns-clause-back : goal.returns-clause-back
returns-clause-back g c = record {
  left = c.in-Some-finished.left;
  is = c.in-Some-finished.is;
  session_is = refl;
  run_is = refl;
}
