use Rattle.erm_core_flush.proofs.Whole.{whole}
use Rattle.erm_core_flush.proofs.gathered_words_are_blocks.Goals as goal

pub returns : goal.returns
returns c core from to sound begin end onward low = whole core sound from to begin end onward low
