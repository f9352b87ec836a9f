use Rattle.erm_sound.proofs.Openings.{opening_sound}
use Rattle.erm_sound.proofs.openings_are_sound.Goals as goal

pub returns : goal.returns
returns g sessions rows tail run first cells few positive low room enough most sizes = opening_sound sessions rows tail run first cells few positive low room enough most sizes
