use Rattle.erm_world.proofs.Blocks.{stays_block}
use Rattle.erm_world.proofs.laws.blocks_of_sessions_stay.Goals as goal

pub returns : goal.returns
returns c = stays_block
