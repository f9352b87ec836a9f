use Rattle.std.proofs.Common.{length, sym, subst}
use Rattle.erm_node.specs.TreeMap.{map_of_rows}
use Rattle.erm_good_report.specs.GoodReport.{places_of}
use Rattle.erm_good_report.specs.Opening.{InTurn}
use Rattle.erm_good_report.specs.Transactions.{transactions_of}
use Rattle.erm_invariant.specs.Commits.{EachFrontRuns}
use Rattle.erm_disk_run.specs.Runs.{commits_told}
use Rattle.erm_disk_invariant.proofs.Crashes.{outliving_keeps}
use Rattle.erm_disk_invariant.proofs.laws.cut_runs_keep_invariants.Goals as goal

pub returns : goal.returns
returns g c invariant limits before after state names script lines was holds keep =
    let Invariant = g.I.Invariant.holds invariant in
    let commits = commits_told names script was.cut.answers was.closed in
    let fronts = subst (EachFrontRuns commits) was.starts.map was.fronts in (
      c.answers_see_invariants.ensures invariant InTurn was.opening script was.cut.answers (transactions_of (length names) (places_of script was.cut.answers was.closed)) was.owes
          (subst Invariant (sym was.starts.map) holds) keep was.fronts,
      outliving_keeps Invariant commits state (c.invariants_hold_below.ensures.states invariant commits (map_of_rows state.rows) holds keep fronts) lines before after was.outlives,
    )
