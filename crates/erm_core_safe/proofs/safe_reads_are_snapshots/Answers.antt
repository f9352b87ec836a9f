use Rattle.erm_core_safe.proofs.Stamps.{reads_snapshot}
use Rattle.erm_core_safe.proofs.safe_reads_are_snapshots.Goals as goal

pub returns : goal.returns
returns g c p oid place stamp sound safe known newest = reads_snapshot c p oid place stamp sound safe known newest
