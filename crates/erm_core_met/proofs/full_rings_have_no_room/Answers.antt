use Rattle.erm_core_met.proofs.Rings.{room_is, size_is}
use Rattle.erm_core_met.proofs.full_rings_have_no_room.Goals as goal

pub returns : goal.returns
returns g c seat sound positive = room_is c.shared.flushed (c.seats seat).current (size_is c seat sound positive)
