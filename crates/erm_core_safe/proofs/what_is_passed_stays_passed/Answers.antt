use Rattle.erm_core_safe.proofs.Passing.{event_passed, run_passed}
use Rattle.erm_core_safe.proofs.what_is_passed_stays_passed.Goals as goal

pub returns-clause-event : goal.returns-clause-event
returns-clause-event g c d b seat kind sound passed e = event_passed b c d seat kind sound e passed

pub returns-clause-run : goal.returns-clause-run
returns-clause-run g c d b es sound passed run = run_passed g.events_keep_sound.ensures b es c d sound run passed
