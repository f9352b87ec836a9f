use Rattle.erm_tight.proofs.OneKey.{new_once}
use Rattle.erm_tight.proofs.keys_are_new_once.Goals as goal

pub returns : goal.returns
returns c = new_once
