use Rattle.erm_core_met.proofs.Backs.{back_is}
use Rattle.erm_core_met.proofs.unsafe_snapshots_have_a_cause.Goals as goal

pub returns : goal.returns
returns g c other sound some = back_is c other sound some
