use Rattle.erm_inspect.proofs.Told.{audit_told}
use Rattle.erm_inspect.proofs.audit.audited.Goals as goal

pub returns-clause-ok : goal.returns-clause-ok
returns-clause-ok g c =
    audit_told c.same_rows_same_map.ensures (g.D.Disk.told c.args.disk.now) c.in_ok-found.found c.in_ok-lines.lines.items
    c.in_ok-found.ensures.recovered c.in_ok-found.ensures.is.are_sound c.in_ok-lines.ensures
