use Rattle.erm_core_flush.proofs.Stays.{flushed_decided, flushed_rises}
use Rattle.erm_core_flush.proofs.flushed_stays.Goals as goal

pub returns-clause-rises : goal.returns-clause-rises
returns-clause-rises c core d seat kind sound e = flushed_rises core seat kind d sound e

pub returns-clause-decided : goal.returns-clause-decided
returns-clause-decided c core sound = flushed_decided core sound
