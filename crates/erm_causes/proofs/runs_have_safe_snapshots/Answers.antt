use Rattle.erm_good_report.specs.Opening.{InTurn}
use Rattle.erm_good_report.specs.Refusals.{moment_at}
use Rattle.erm_good_report.specs.Snapshots.{SnapshotsAgree}
use Rattle.erm_told.proofs.Courses.{of_runs}
use Rattle.erm_causes.proofs.runs_have_safe_snapshots.Goals as goal

pub returns : goal.returns
returns c =
    of_runs (λ opening script answers closed told. SnapshotsAgree (moment_at InTurn opening script answers told) opening script answers told) c.courses_have_safe_snapshots.ensures
