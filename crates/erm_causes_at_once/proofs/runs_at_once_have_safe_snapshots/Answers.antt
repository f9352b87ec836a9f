use Rattle.erm_good_report.specs.Snapshots.{SnapshotsAgree}
use Rattle.erm_good_at_once.specs.CutReports.{moment_in}
use Rattle.erm_lines_at_once.proofs.Parts.{whole_of}
use Rattle.erm_causes_at_once.proofs.runs_at_once_have_safe_snapshots.Goals as goal

pub returns : goal.returns
returns c = whole_of (λ opening whole part answers told. SnapshotsAgree (moment_in opening whole part answers told) opening part answers told) c.runs_in_part_have_safe_snapshots.ensures.safe
