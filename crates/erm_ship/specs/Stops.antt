-- Why no more of a stream is put.
use Rattle.erm_recover.specs.declared.stop.RecoverStop.{RecoverStop}
use Rattle.erm_recover.specs.declared.stop.RecoverStop.TheVariants as recover
use Rattle.erm_ship.specs.declared.stop.ShipStop.{ShipStop}
use Rattle.erm_ship.specs.declared.stop.ShipStop.TheVariants as stop

-- where a recovery stops, for the same cause
abbrev pub ship_stop : RecoverStop → ShipStop
ship_stop recover.DiskFault = stop.DiskFault
ship_stop recover.NoBase = stop.NoBase
ship_stop recover.Memory = stop.Memory
