use Rattle.erm_layout.proofs.Words.{word_of_number}
use Rattle.erm_layout.proofs.laws.every_number.Goals as goal

pub returns : goal.returns
returns c = word_of_number
