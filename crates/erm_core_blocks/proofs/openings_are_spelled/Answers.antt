use Rattle.erm_core_blocks.proofs.Same.{opened_spelled}
use Rattle.erm_core_blocks.proofs.openings_are_spelled.Goals as goal

pub returns : goal.returns
returns c sessions rows tail run first cells = opened_spelled sessions rows tail run first cells
