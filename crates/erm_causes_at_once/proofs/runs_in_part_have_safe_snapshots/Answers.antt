use Rattle.erm_causes_at_once.proofs.Agreed.{part_safe}
use Rattle.erm_causes_at_once.proofs.Ordered.{part_serial}
use Rattle.erm_causes_at_once.proofs.runs_in_part_have_safe_snapshots.Goals as goal

pub returns-clause-safe : goal.returns-clause-safe
returns-clause-safe c = part_safe c.begun_transactions_are_runs.ensures c.answers_stay.ensures c.told_worlds_have_safe_snapshots.ensures

pub returns-clause-serial : goal.returns-clause-serial
returns-clause-serial c =
    part_serial c.begun_transactions_are_runs.ensures c.answers_stay.ensures c.serial_order_is_unique.ensures.exists_for_sessions c.told_worlds_are_serial_with_snapshots.ensures
