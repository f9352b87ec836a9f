use Rattle.std.proofs.Common.{length, sym, subst}
use Rattle.std.specs.FinMap.{from_entries}
use Rattle.erm_model.specs.Database.{entries_of}
use Rattle.erm_node.specs.TreeMap.{map_of_rows}
use Rattle.erm_good_report.specs.GoodReport.{places_of}
use Rattle.erm_good_report.specs.Opening.{AtOnce}
use Rattle.erm_good_report.specs.Transactions.{transactions_of}
use Rattle.erm_invariant.specs.Commits.{EachFrontRuns}
use Rattle.erm_disk_run.specs.Runs.{commits_told}
use Rattle.erm_disk_invariant.proofs.Crashes.{end_at_once_keeps, outliving_keeps}
use Rattle.erm_disk_invariant.proofs.at_once.runs_at_once_keep_invariants.Goals as goal

pub returns : goal.returns
returns g c invariant before after state names script lines was holds keep =
    let Invariant = g.I.Invariant.holds invariant in
    let good = was.good.good in
    let report = good.report in
    let commits = commits_told names script report.answers report.closed in
    let fronts = subst (EachFrontRuns commits) was.starts.map was.fronts in
    let opened = subst Invariant (sym was.starts.map) holds in
    let lasts = c.good_reports_keep_invariants.ensures invariant AtOnce was.opening names script lines good opened keep in
    record {
      lasts = lasts;
      seen = c.answers_see_invariants.ensures invariant AtOnce was.opening script report.answers (transactions_of (length names) (places_of script report.answers report.closed)) good.owes
          opened keep was.fronts;
      crashes = outliving_keeps Invariant commits state (c.invariants_hold_below.ensures.states invariant commits (map_of_rows state.rows) holds keep fronts) lines before after was.outlives;
      end = end_at_once_keeps Invariant commits state (from_entries (entries_of report.pairs)) before after lasts.last was.leaves;
    }
