use Rattle.erm_run_at_once.proofs.laws.ends_have_laws.Goals as goal

pub returns : goal.returns
returns c = record {
  split = c.scripts_are_split.ensures;
  did = c.sessions_did_works.ensures;
  did_some = c.sessions_did_some_works.ensures;
  complete = c.sessions_are_complete.ensures;
  logs = c.sessions_leave_logs.ensures;
  runs = c.works_are_a_run.ensures.run;
  cuts = c.works_are_a_cut_run.ensures.run;
  starved = c.works_are_a_starved_run.ensures.run;
  first = c.works_may_be_merged.ensures.first;
  all = c.works_may_be_merged.ensures.all;
  ends = c.runs_at_once_end_on_disk.ensures;
  cut_ends = c.cut_runs_at_once_end_on_disk.ensures;
  starved_ends = c.starved_runs_at_once_end_on_disk.ensures;
  left = c.openings_are_left.ensures;
  tables = c.summaries_are_in_tables.ensures;
  maps = c.same_rows_same_map.ensures;
  keys = c.map_has_values_of_records.ensures.none;
  zeros = c.zero_rows_are_not_reached.ensures;
}
