use Rattle.std.proofs.Common.{Ok, Err, ap, ◌∙◌}
use Rattle.std.proofs.lemmas.Result.{err_from_is_err_and}
use Rattle.erm_disk_run.specs.declared.stops.RunStop.TheVariants as run
use Rattle.erm_top.proofs.Texted.{told_cut, told_none, told_text, told_why}
use Rattle.erm_top.proofs.script.script_text.Goals as goal

pub returns-in_ok-lines_text-in-Ok : goal.returns-in_ok-lines_text-in-Ok
returns-in_ok-lines_text-in-Ok c =
    told_text c.args.ended c.requires c.in-Ok.lines c.deref.result.now c.deref.ensures.value c.in_ok-lines_text-in-Ok.ensures.fits c.in_ok-lines_text-in-Ok.field-0 c.in_ok-lines_text-in-Ok.ensures.text
    c.in-Ok.is

pub returns-in-Err-Unopened : goal.returns-in-Err-Unopened
returns-in-Err-Unopened c =
    told_why c.args.ended c.in-Err-Unopened.stop (c.in-Err-Unopened.is ∙ ap (λ s. Err s) c.in-Err-Unopened.field-0-is) c.not_opened.result c.not_opened.ensures.run

pub returns-in_ok-lines_text-in-Err-DiskFault : goal.returns-in_ok-lines_text-in-Err-DiskFault
returns-in_ok-lines_text-in-Err-DiskFault c =
    told_cut c.args.ended c.requires c.in-Err-DiskFault.lines c.deref-in-Err-DiskFault.result.now c.deref-in-Err-DiskFault.ensures.value c.in_ok-lines_text-in-Err-DiskFault.ensures.fits
    c.in_ok-lines_text-in-Err-DiskFault.field-0 c.in_ok-lines_text-in-Err-DiskFault.ensures.text (c.in-Err-DiskFault.is ∙ ap (λ s. Err s) c.in-Err-DiskFault.field-0-is)

pub returns-in_err-lines_text-in-Ok : goal.returns-in_err-lines_text-in-Ok
returns-in_err-lines_text-in-Ok c =
    let p = err_from_is_err_and c.from_residual.result c.from_residual.ensures.1 in
    rw (p.1, p.2) (told_none (Ok c.in-Ok.lines) c.args.ended c.in-Ok.is tt)

pub returns-in_err-lines_text-in-Err-DiskFault : goal.returns-in_err-lines_text-in-Err-DiskFault
returns-in_err-lines_text-in-Err-DiskFault c =
    let p = err_from_is_err_and c.from_residual-in_err-lines_text-in-Err-DiskFault.result c.from_residual-in_err-lines_text-in-Err-DiskFault.ensures.1 in
    rw (p.1, p.2) (told_none (Err (run.DiskFault c.in-Err-DiskFault.lines)) c.args.ended (c.in-Err-DiskFault.is ∙ ap (λ s. Err s) c.in-Err-DiskFault.field-0-is) tt)

pub returns-in-Err-Memory : goal.returns-in-Err-Memory
returns-in-Err-Memory c = told_none (Err run.Memory) c.args.ended (c.in-Err-Memory.is ∙ ap (λ s. Err s) c.in-Err-Memory.field-0-is) tt
