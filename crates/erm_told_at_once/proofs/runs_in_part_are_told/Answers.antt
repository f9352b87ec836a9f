use Rattle.erm_told_at_once.proofs.Ends.{serial, snapshots}
use Rattle.erm_told_at_once.proofs.Runs.{phases, runs_tell}
use Rattle.erm_told_at_once.proofs.Stamping.{part_rise, part_stamps}
use Rattle.erm_told_at_once.proofs.runs_in_part_are_told.Goals as goal

pub returns-clause-tell : goal.returns-clause-tell
returns-clause-tell c = runs_tell c.begun_transactions_are_runs.ensures c.answers_stay.ensures

pub returns-clause-phases : goal.returns-clause-phases
returns-clause-phases c = phases c.begun_transactions_are_runs.ensures c.answers_stay.ensures

pub returns-clause-stamps : goal.returns-clause-stamps
returns-clause-stamps c = part_stamps c.begun_transactions_are_runs.ensures c.answers_stay.ensures

pub returns-clause-rise : goal.returns-clause-rise
returns-clause-rise c = part_rise c.begun_transactions_are_runs.ensures c.answers_stay.ensures

pub returns-clause-snapshots : goal.returns-clause-snapshots
returns-clause-snapshots c = snapshots (runs_tell c.begun_transactions_are_runs.ensures c.answers_stay.ensures) c.told_worlds_have_snapshots.ensures

pub returns-clause-serial : goal.returns-clause-serial
returns-clause-serial c = serial (runs_tell c.begun_transactions_are_runs.ensures c.answers_stay.ensures) c.told_worlds_are_serial.ensures
