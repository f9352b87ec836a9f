use Rattle.std.proofs.Common.{refl}
use Rattle.erm_top.proofs.Streaming.{shipping_ends}
use Rattle.erm_top.proofs.stream.ship_log.Goals as goal

pub returns : goal.returns
returns g c = λ left faults. shipping_ends c.ship-status.result _ c.ship-status.ensures (record { left = refl; sound = refl })
