use Rattle.erm_ship.proofs.Ending.{ends_failed}
use Rattle.erm_ship.proofs.shipping.ship.Goals as goal

pub returns-in-Err-DiskFault : goal.returns-in-Err-DiskFault
returns-in-Err-DiskFault g c =
    let s = rw c.in-Err-DiskFault.field-0-is at c.in-Err-DiskFault.ensures.stops in
    ends_failed _ c.in-Err-DiskFault.ensures.told _ _ s c.print.ensures
