use Rattle.erm_causes_at_once.proofs.Held.{part_saves}
use Rattle.erm_causes_at_once.proofs.Own.{part_log}
use Rattle.erm_causes_at_once.proofs.Reach.{part_reach}
use Rattle.erm_causes_at_once.proofs.runs_in_part_tell_log.Goals as goal

pub returns-clause-log : goal.returns-clause-log
returns-clause-log c = part_log c.begun_transactions_are_runs.ensures c.answers_stay.ensures

pub returns-clause-saves : goal.returns-clause-saves
returns-clause-saves c = part_saves c.begun_transactions_are_runs.ensures c.answers_stay.ensures

pub returns-clause-reach : goal.returns-clause-reach
returns-clause-reach c = part_reach c.begun_transactions_are_runs.ensures c.answers_stay.ensures
