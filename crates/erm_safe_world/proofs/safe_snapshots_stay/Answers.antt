use Rattle.erm_safe_world.proofs.Stays.{newest_stays}
use Rattle.erm_safe_world.proofs.safe_snapshots_stay.Goals as goal

pub returns : goal.returns
returns c v t b oid stamp row moves safe snapshots is = newest_stays v t b oid stamp row moves safe snapshots is
