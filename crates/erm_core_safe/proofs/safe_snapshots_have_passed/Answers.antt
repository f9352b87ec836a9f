use Rattle.erm_core_safe.proofs.Passing.{safe_passes}
use Rattle.erm_core_safe.proofs.safe_snapshots_have_passed.Goals as goal

pub returns : goal.returns
returns g c p sound safe = safe_passes c p sound safe
