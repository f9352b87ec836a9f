use Rattle.erm_good_report.specs.Transactions.{history_of, steps_of}
use Rattle.erm_report_invariant.proofs.laws.answers_see_invariants.Goals as goal

pub returns : goal.returns
returns g c invariant mode opening script answers told owes holds keep fronts t m =
    c.invariants_hold_below.ensures.snapshots invariant (history_of told) opening.map holds keep fronts t.begin (steps_of t) (owes.snapshots t m)
