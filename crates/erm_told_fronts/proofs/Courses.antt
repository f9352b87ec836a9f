-- A run so far tells its last world, so the fronts of its commits are those of that world.
use Rattle.std.proofs.Common.{subst}
use Rattle.erm_world.specs.World as world
use Rattle.erm_good_report.specs.GoodReport.{places_of}
use Rattle.erm_good_report.specs.Transactions.{history_of, transactions_of}
use Rattle.erm_invariant.specs.Commits.{EachFrontRuns}
use Rattle.erm_lines.specs.Laws.{ExecutionsGoOn, ExecutionsTell}
use Rattle.erm_told.proofs.Ended.{at_end, end_tells, opening_is}
use Rattle.erm_told_order.proofs.Ends.{end_map}
use Rattle.erm_told_fronts.specs.Fronts.{CoursesRunInFronts, ToldFrontsRun}

pub courses_run : ExecutionsTell → ExecutionsGoOn → ToldFrontsRun → CoursesRunInFronts
courses_run tell go law v t script answers course closed opening closes of =
    let said = places_of script answers closed in
    subst (λ (o : world.Opening). EachFrontRuns (history_of (transactions_of o.sessions said)) opening.map)
    (opening_is tell go v t script answers course closed closes)
    (law t said
    (record {
      serializable = at_end tell go v t script answers course closed closes;
      tells = end_tells tell go v t script answers course closed closes;
    })
    opening.map (end_map tell go v t script answers course closed closes opening of))
