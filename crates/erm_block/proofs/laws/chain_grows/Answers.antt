use Rattle.erm_block.proofs.OneLogList.{IsChain-push}
use Rattle.erm_block.proofs.laws.chain_grows.Goals as goal

pub returns : goal.returns
returns g c = IsChain-push g.R.RowLaw.law.meets
