use Rattle.erm_core_blocks.proofs.Kept.{kept}
use Rattle.erm_core_blocks.proofs.blocks_stay_spelled.Goals as goal

pub returns : goal.returns
returns c core d seat kind sound old spelled e = kept core seat kind d sound old spelled e
