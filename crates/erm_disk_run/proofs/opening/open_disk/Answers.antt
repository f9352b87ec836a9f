use Rattle.std.proofs.lemmas.Result.{err_from_is_err_and}
use Rattle.erm_disk_run.proofs.Opened.{opened_only}
use Rattle.erm_disk_run.proofs.opening.open_disk.Goals as goal

pub returns-in_err-world-clause-stops : goal.returns-in_err-world-clause-stops
returns-in_err-world-clause-stops g c =
    let state = c.in_ok-rows.ensures.opened.0 in
    let was = c.in_ok-rows.ensures.opened.1 in
    let p = err_from_is_err_and c.from_residual-in_err-world.result c.from_residual-in_err-world.ensures.1 in
    rw (p.1, p.2)
    (opened_only c.kept_images_may_open.ensures state c.in_ok-rows.field-0.slots (g.D.Disk.told c.args.disk.now) (g.D.Disk.told c.open_log_on_disk.new.disk) was.found was.disk)
