use Rattle.erm_replica_run.proofs.AtOnce.{ends_near}
use Rattle.erm_replica_run.proofs.laws.bad_streams_end_it.Goals as goal

pub returns : goal.returns
returns c status a front more place ends left bad = ends_near c.bad_streams_stay_bad.ensures front more place bad a left status ends
