use Rattle.erm_core_stays.proofs.Commits.{event_commits, run_commits}
use Rattle.erm_core_stays.proofs.commits_stay.Goals as goal

pub returns-clause-event : goal.returns-clause-event
returns-clause-event c core d seat kind sound e t m = event_commits core d seat kind sound e t m

pub returns-clause-run : goal.returns-clause-run
returns-clause-run c core d es sound run t m = run_commits c.events_keep_sound.ensures es core d sound run t m
