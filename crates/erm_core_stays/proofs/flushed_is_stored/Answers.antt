use Rattle.erm_core_stays.proofs.Running.{flushed_by_store, flushed_same, others_flushed, run_flushed}
use Rattle.erm_core_stays.proofs.flushed_is_stored.Goals as goal

pub returns-clause-store : goal.returns-clause-store
returns-clause-store c core d seat value sound e = flushed_by_store core d seat value sound e

pub returns-clause-event : goal.returns-clause-event
returns-clause-event c core d seat kind e none = flushed_same core d seat kind e none

pub returns-clause-run : goal.returns-clause-run
returns-clause-run c core d es run none = run_flushed es core d run none

pub returns-clause-others : goal.returns-clause-others
returns-clause-others c core d es sound run others = others_flushed c.events_keep_sound.ensures es core d sound run others
