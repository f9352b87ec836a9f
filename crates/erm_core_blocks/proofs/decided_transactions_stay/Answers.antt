use Rattle.erm_core_blocks.proofs.Stays.{stays}
use Rattle.erm_core_blocks.proofs.decided_transactions_stay.Goals as goal

pub returns : goal.returns
returns c core d seat kind sound e q t m has = (stays core seat kind d sound e q).each t m has
