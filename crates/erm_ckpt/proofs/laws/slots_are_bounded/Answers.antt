use Rattle.erm_ckpt.proofs.SlotBytes.{slot_below, slot_short}
use Rattle.erm_ckpt.proofs.SavedRows.{slot_fits}
use Rattle.erm_ckpt.proofs.laws.slots_are_bounded.Goals as goal

pub returns-clause-most : goal.returns-clause-most
returns-clause-most c = slot_short

pub returns-clause-words : goal.returns-clause-words
returns-clause-words c = slot_below

pub returns-clause-written : goal.returns-clause-written
returns-clause-written c = slot_fits
