use Rattle.std.proofs.Common.{refl}
use Rattle.erm_inspect.specs.Recoveries.{HasRecoveryForm, IsRecovery}
use Rattle.erm_top.proofs.Inspected.{inspected, inspection_ends}
use Rattle.erm_top.proofs.inspect.recover.Goals as goal

pub returns : goal.returns
returns g c = λ left faults.
    inspection_ends IsRecovery HasRecoveryForm c.put_told-status.result _ c.found_text-told.result
    (inspected IsRecovery HasRecoveryForm c.put_told-status.result _ c.recovered-found.result c.recovered-found.ensures.ok c.recovered-found.ensures.form c.recovered-found.ensures.no_base c.recovered-found.ensures.sound c.recovered-found.ensures.fault
    c.found_text-told.result c.found_text-told.ensures)
    c.put_told-status.ensures (record { left = refl; sound = refl }) c.recovered-found.ensures.told
