use Rattle.std.proofs.Common.{sym, subst}
use Rattle.erm_node.specs.TreeMap.{map_of_rows}
use Rattle.erm_good_report.specs.Transactions.{steps_of}
use Rattle.erm_good_at_once.specs.CutReports.{answered_of}
use Rattle.erm_invariant.specs.Commits.{EachFrontRuns}
use Rattle.erm_disk_run.specs.Runs.{commits_told}
use Rattle.erm_disk_invariant.proofs.Crashes.{outliving_keeps}
use Rattle.erm_disk_invariant.proofs.at_once.cut_runs_at_once_keep_invariants.Goals as goal

pub returns : goal.returns
returns g c invariant before after state names script lines was holds keep =
    let Invariant = g.I.Invariant.holds invariant in
    let commits = commits_told names (answered_of was.cut.counts script) was.cut.answers was.cut.closed in
    let fronts = subst (EachFrontRuns commits) was.starts.map was.fronts in (
      λ t m. c.invariants_hold_below.ensures.snapshots invariant commits was.opening.map (subst Invariant (sym was.starts.map) holds) keep was.fronts t.begin (steps_of t) (was.cut.owes.snapshots t m),
      outliving_keeps Invariant commits state (c.invariants_hold_below.ensures.states invariant commits (map_of_rows state.rows) holds keep fronts) lines before after was.outlives,
    )
