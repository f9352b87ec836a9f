use Rattle.erm_core_stays.proofs.Numbers.{rises}
use Rattle.erm_core_stays.proofs.Running.{run_rises}
use Rattle.erm_core_stays.proofs.numbers_rise.Goals as goal

pub returns-clause-event : goal.returns-clause-event
returns-clause-event c core d seat kind sound e = rises core d seat kind sound e

pub returns-clause-run : goal.returns-clause-run
returns-clause-run c core d es sound run = run_rises c.events_keep_sound.ensures es core d sound run
