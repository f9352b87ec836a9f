use Rattle.erm_machine.specs.Decided.{history_of}
use Rattle.erm_machine.specs.Lawful.{opening_rows}
use Rattle.erm_core_safe.proofs.Stamps.{stamp_safe}
use Rattle.erm_core_safe.proofs.passed_stamps_are_safe.Goals as goal

pub returns-clause-safe : goal.returns-clause-safe
returns-clause-safe g c b sound passed = stamp_safe c b sound passed

pub returns-clause-place : goal.returns-clause-place
returns-clause-place g c b order sound passed some serial =
    g.safe_snapshots_have_a_place.ensures (history_of c.seats) (opening_rows c.shared) (g.commits_are_a_snapshot_history.ensures c sound)
    (g.commits_are_certified.ensures c sound) order serial b some (stamp_safe c b sound passed)
