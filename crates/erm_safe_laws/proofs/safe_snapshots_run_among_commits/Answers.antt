use Rattle.erm_safe_laws.proofs.Among.{runs_among}
use Rattle.erm_safe_laws.proofs.safe_snapshots_run_among_commits.Goals as goal

pub returns : goal.returns
returns c commits safes serial order opening m limit are safe own runs all = runs_among commits safes order opening limit are safe all serial m own runs
