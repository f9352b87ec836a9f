use Rattle.std.proofs.Common.{arith}
use Rattle.erm_disk_cases.proofs.ckpt.write.Goals as goal

pub encode_slot-requires-clause-room : goal.encode_slot-requires-clause-room
encode_slot-requires-clause-room c = let few = c.slots_are_bounded.ensures.written c.args.slot.now c.args.rows.now c.requires.rows c.told-rows in omega (arith, few, c.requires.out)
