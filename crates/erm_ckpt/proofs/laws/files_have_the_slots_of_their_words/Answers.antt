use Rattle.erm_ckpt.proofs.SlotBytes.{in_words}
use Rattle.erm_ckpt.proofs.laws.files_have_the_slots_of_their_words.Goals as goal

pub returns : goal.returns
returns c = in_words
