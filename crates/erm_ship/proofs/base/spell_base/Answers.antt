use Rattle.std.proofs.Common.{ℕ, length, arith, length-drop}
use Rattle.erm_ckpt.proofs.SavedRows.{slot_fits}
use Rattle.erm_ship.proofs.base.spell_base.Goals as goal

pub encode_slot-size-requires-clause-room : goal.encode_slot-size-requires-clause-room
encode_slot-size-requires-clause-room c = omega (arith, slot_fits c.args.slot.now c.args.rows.now c.requires.count c.told-rows, c.requires.words, length-drop 1 c.args.words.now)
