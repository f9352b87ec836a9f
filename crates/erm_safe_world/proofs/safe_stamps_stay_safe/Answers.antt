use Rattle.erm_safe_world.proofs.Stays.{stays_safe}
use Rattle.erm_safe_world.proofs.safe_stamps_stay_safe.Goals as goal

pub returns : goal.returns
returns c v t b moves safe = stays_safe v t b moves safe
