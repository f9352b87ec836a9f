-- What a sound state has committed is a snapshot history.
use Rattle.erm_core_ssn.proofs.RowsHistory.{snapshot_history}
use Rattle.erm_core_ssn.proofs.machine.commits_are_a_snapshot_history.Goals as goal

pub returns : goal.returns
returns c = λ a sound. snapshot_history a sound
