use Rattle.erm_model.specs.declared.limits.TheConstants.{SESSIONS}
use Rattle.erm_client_disk.proofs.ends.programs_have_laws.Goals as goal

pub returns : goal.returns
returns c = record {
  outlive = c.ended_clients_outlive.ensures;
  done = c.ended_clients_are_done.ensures;
  may_end = c.shown_worlds_may_end.ensures;
  logs = c.closed_tables_have_logs.ensures.log;
  apart = λ core under quiet. c.ranges_of_closed_tables_stand_apart.ensures SESSIONS core under quiet;
  unrun = c.openings_outlive.ensures;
  maps = c.same_rows_same_map.ensures;
  zeros = c.zero_rows_are_not_reached.ensures;
}
