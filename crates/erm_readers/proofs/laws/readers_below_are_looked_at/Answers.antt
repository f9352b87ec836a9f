use Rattle.erm_readers.proofs.Seen.{looked_at}
use Rattle.erm_readers.proofs.laws.readers_below_are_looked_at.Goals as goal

pub returns : goal.returns
returns c core p q write bits sound other at reader drawn below = looked_at core p q write bits sound other at reader drawn below
