use Rattle.erm_ckpt.proofs.OneSlot.{same_from_words}
use Rattle.erm_ckpt.proofs.SlotBytes.{same_in_file}
use Rattle.erm_ckpt.proofs.laws.one_slot.Goals as goal

pub returns-clause-words : goal.returns-clause-words
returns-clause-words c = same_from_words

pub returns-clause-bytes : goal.returns-clause-bytes
returns-clause-bytes c = λ a b file. same_in_file file a b
