use Rattle.erm_maps.proofs.Seen.{seen_restored}
use Rattle.erm_maps.proofs.restored_rows_are_seen.Goals as goal

pub returns : goal.returns
returns c = seen_restored
