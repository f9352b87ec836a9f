use Rattle.std.proofs.Common.{subst}
use Rattle.erm_node.specs.TreeMap.{map_of_rows}
use Rattle.erm_invariant.specs.Commits.{EachFrontRuns}
use Rattle.erm_disk_run.specs.Runs.{commits_told}
use Rattle.erm_disk_invariant.proofs.Crashes.{crashes_keep}
use Rattle.erm_disk_invariant.proofs.laws.starved_runs_keep_invariants.Goals as goal

pub returns : goal.returns
returns g c invariant limits before after state names script was holds keep =
    let commits = commits_told names script was.answers was.closed in
    let fronts = subst (EachFrontRuns commits) was.starts.map was.fronts in
    crashes_keep (g.I.Invariant.holds invariant) commits state (c.invariants_hold_below.ensures.states invariant commits (map_of_rows state.rows) holds keep fronts) before after was.moments
