use Rattle.erm_core_met.proofs.Backs.{begin_stands, begun_is}
use Rattle.erm_core_met.proofs.waits_have_a_cause.Goals as goal

pub returns-clause-cause : goal.returns-clause-cause
returns-clause-cause g c other sound some = begun_is c other sound some

pub returns-clause-stands : goal.returns-clause-stands
returns-clause-stands g c other sound begun = begin_stands c other sound begun
