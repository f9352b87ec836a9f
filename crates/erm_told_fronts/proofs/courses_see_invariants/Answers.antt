use Rattle.erm_good_report.specs.GoodReport.{places_of}
use Rattle.erm_good_report.specs.Transactions.{history_of, steps_of, transactions_of}
use Rattle.erm_told_order.proofs.Ends.{snapshots}
use Rattle.erm_told_fronts.proofs.courses_see_invariants.Goals as goal

pub returns : goal.returns
returns g c invariant v t script answers course closed opening closes of holds keep u m =
    let replies =
    snapshots c.executions_tell_sessions.ensures c.executions_go_on.ensures c.told_worlds_have_snapshots.ensures v t script answers course closed opening closes of u m
    in
    c.invariants_hold_below.ensures.snapshots invariant (history_of (transactions_of v.opening.sessions (places_of script answers closed))) opening.map holds keep
    (c.courses_run_in_fronts.ensures v t script answers course closed opening closes of) u.begin (steps_of u) replies
