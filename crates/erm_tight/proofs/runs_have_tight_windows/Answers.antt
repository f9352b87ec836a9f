use Rattle.std.proofs.Common.{ap, sym}
use Rattle.std.specs.Prelude.{◌++◌}
use Rattle.erm_good_report.specs.GoodReport.{places_of}
use Rattle.erm_world.specs.World as world
use Rattle.erm_lines.specs.Executions.{line_moves}
use Rattle.erm_told.proofs.Courses.{run_so_far}
use Rattle.erm_causes.proofs.Moves.{session_before}
use Rattle.erm_causes.proofs.Runs.{whole_run}
use Rattle.erm_causes.proofs.Tables.{run_holds, run_opening}
use Rattle.erm_tight.proofs.High.{tight_windows}
use Rattle.erm_tight.proofs.Orderly.{run_orderly}
use Rattle.erm_tight.proofs.Runs.{run_marks}
use Rattle.erm_tight.proofs.Undecided.{opened_orderly}
use Rattle.erm_tight.proofs.Whole.{KeyLaws, key_laws}
use Rattle.erm_tight.proofs.runs_have_tight_windows.Goals as goal
use Rattle.erm_told_limits.proofs.Given.{HistoryLaws}

pub returns : goal.returns
returns c = λ v t script answers run closed opening are starts.
    let laws : HistoryLaws = record {
      certified = c.prefixes_stand_alone.ensures.certified;
      snapshot = c.prefixes_stand_alone.ensures.snapshot;
      exists = c.serial_order_is_unique.ensures.exists;
      run_below = c.rows_run_serially.ensures.run_below;
      newest_below = c.rows_run_serially.ensures.newest_below;
      row = c.versions_are_unique.ensures.row;
      newest = c.versions_are_unique.ensures.newest;
    } in
    let keys : KeyLaws = key_laws c.nodes_are_read_back.ensures.record c.record_values.ensures.given c.record_values.ensures.found c.map_has_values_of_records.ensures.value c.nodes_are_read_back.ensures.found in
    let moves = line_moves script answers ++ run.closing in
    let so_far = run_so_far v t script answers run in
    let whole = whole_run v t script answers so_far closed are in
    let same = run_opening moves v t whole in
    tight_windows laws t v.opening.sessions (places_of script answers closed) (run_holds moves v t run.opened.serializable whole)
    (ap (λ (o : world.Opening). o.sessions) (sym same))
    (λ seat session. c.runs_tell_sessions.ensures v t script answers run closed are seat (session_before v t seat same session))
    (λ seat session. run_marks v t script answers so_far closed are keys c.begun_transactions_are_runs.ensures c.answers_stay.ensures seat (session_before v t seat same session))
    (run_orderly moves v t run.opened.serializable whole (opened_orderly v run.opened))
