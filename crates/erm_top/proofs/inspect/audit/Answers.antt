use Rattle.std.proofs.Common.{refl}
use Rattle.erm_inspect.specs.Audits.{HasAuditForm, IsAudit}
use Rattle.erm_top.proofs.Inspected.{inspected, inspection_ends}
use Rattle.erm_top.proofs.inspect.audit.Goals as goal

pub returns : goal.returns
returns g c = λ left faults.
    inspection_ends IsAudit HasAuditForm c.put_told-status.result _ c.found_text-told.result
    (inspected IsAudit HasAuditForm c.put_told-status.result _ c.audited-found.result c.audited-found.ensures.ok c.audited-found.ensures.form c.audited-found.ensures.no_base c.audited-found.ensures.sound c.audited-found.ensures.fault
    c.found_text-told.result c.found_text-told.ensures)
    c.put_told-status.ensures (record { left = refl; sound = refl }) c.audited-found.ensures.told
