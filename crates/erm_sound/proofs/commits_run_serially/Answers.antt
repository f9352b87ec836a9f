use Rattle.erm_machine.specs.Decided.{history_of}
use Rattle.erm_machine.specs.Lawful.{opening_rows}
use Rattle.erm_sound.proofs.commits_run_serially.Goals as goal

pub returns-clause-one : goal.returns-clause-one
returns-clause-one g core sound = g.serial_order_is_unique.ensures.exists (history_of core.seats) (g.commits_are_certified.ensures core sound)

pub returns-clause-run : goal.returns-clause-run
returns-clause-run g core sound order is =
    g.rows_run_serially.ensures.run (history_of core.seats) (opening_rows core.shared) (g.commits_are_a_snapshot_history.ensures core sound) (g.commits_are_certified.ensures core sound) order is

pub returns-clause-newest : goal.returns-clause-newest
returns-clause-newest g core sound order is bound positive below =
    g.rows_run_serially.ensures.newest (history_of core.seats) (opening_rows core.shared) (g.commits_are_a_snapshot_history.ensures core sound) (g.commits_are_certified.ensures core sound) order is bound positive below
