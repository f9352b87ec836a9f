use Rattle.erm_node.specs.TreeMap.{map_of_rows}
use Rattle.erm_world.specs.Log.{place_behind, rows_behind}
use Rattle.erm_good_report.specs.GoodReport.{places_of}
use Rattle.erm_good_report.specs.Transactions.{history_of, transactions_of}
use Rattle.erm_told_fronts.proofs.logs_keep_invariants.Goals as goal

pub returns : goal.returns
returns g c invariant v t script answers course closed opening closes of log log_of is holds keep front rest split =
    let commits = history_of (transactions_of v.opening.sessions (places_of script answers closed)) in
    c.invariants_hold_below.ensures.states invariant commits opening.map holds keep
    (c.courses_run_in_fronts.ensures v t script answers course closed opening closes of)
    (place_behind log.opened.at front) (map_of_rows (rows_behind log.opened.rows front))
    (c.logs_tell_states.ensures v t script answers course closed opening closes of log log_of is front rest split)
