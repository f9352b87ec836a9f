use Rattle.erm_core_stays.proofs.Commits.{event_continues, run_continues}
use Rattle.erm_core_stays.proofs.transactions_go_on.Goals as goal

pub returns-clause-event : goal.returns-clause-event
returns-clause-event c core d seat kind sound e q t session m begun = event_continues core d seat kind sound e q t session m begun

pub returns-clause-run : goal.returns-clause-run
returns-clause-run c core d es sound run q t session m begun = run_continues c.events_keep_sound.ensures es core d sound run q t session m begun
