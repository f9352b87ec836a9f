use Rattle.std.proofs.Common.{Ok, Err, ap, ◌∙◌}
use Rattle.std.proofs.lemmas.Result.{err_from_is_err_and}
use Rattle.erm_disk_run.specs.declared.stops.RunStop.TheVariants as run
use Rattle.erm_make.specs.Workload.{names_of}
use Rattle.erm_top.specs.Makes.{lines_of}
use Rattle.erm_top.proofs.Texted.{tells_counts, tells_failed, tells_unmade, untold_run}
use Rattle.erm_top.proofs.make.made_text.Goals as goal

pub returns-in_ok-counts_text-in-Ok : goal.returns-in_ok-counts_text-in-Ok
returns-in_ok-counts_text-in-Ok c = λ before after faults now ends left counts.
    tells_counts c.args.ended c.requires before after faults now c.in-Ok.lines c.in-Ok.is c.deref.result.now c.deref.ensures.value c.in_ok-counts_text-in-Ok.ensures.fits counts
    c.args.count c.args.sessions c.in_ok-counts_text-in-Ok.field-0 c.in_ok-counts_text-in-Ok.ensures.text ends

pub returns-in-Err-Unopened : goal.returns-in-Err-Unopened
returns-in-Err-Unopened c = λ before after faults now ends left counts.
    tells_unmade c.args.ended c.requires before after faults now c.in-Err-Unopened.stop (c.in-Err-Unopened.is ∙ ap (λ s. Err s) c.in-Err-Unopened.field-0-is) c.not_opened.result
    (c.not_opened.ensures.run before after faults now) counts c.args.count c.args.sessions ends

pub returns-in_ok-try_each_text-in-Err-DiskFault : goal.returns-in_ok-try_each_text-in-Err-DiskFault
returns-in_ok-try_each_text-in-Err-DiskFault c = λ before after faults now ends left counts.
    tells_failed c.args.ended c.requires before after faults now c.in-Err-DiskFault.lines (c.in-Err-DiskFault.is ∙ ap (λ s. Err s) c.in-Err-DiskFault.field-0-is) c.deref-in-Err-DiskFault.result.now
    c.deref-in-Err-DiskFault.ensures.value c.in_ok-try_each_text-in-Err-DiskFault.ensures counts c.args.count c.args.sessions ends

pub returns-in_err-counts_text-in-Ok : goal.returns-in_err-counts_text-in-Ok
returns-in_err-counts_text-in-Ok c = λ before after faults now ends left counts.
    let p = err_from_is_err_and c.from_residual.result c.from_residual.ensures.1 in
    rw (p.1, p.2)
    (untold_run (Ok c.in-Ok.lines) c.args.ended c.in-Ok.is before after faults now (names_of c.args.count c.args.sessions) (lines_of c.args.count c.args.sessions) left counts tt)

pub returns-in_err-try_each_text-in-Err-DiskFault : goal.returns-in_err-try_each_text-in-Err-DiskFault
returns-in_err-try_each_text-in-Err-DiskFault c = λ before after faults now ends left counts.
    let p = err_from_is_err_and c.from_residual-in_err-try_each_text-in-Err-DiskFault.result c.from_residual-in_err-try_each_text-in-Err-DiskFault.ensures.1 in
    rw (p.1, p.2)
    (untold_run (Err (run.DiskFault c.in-Err-DiskFault.lines)) c.args.ended (c.in-Err-DiskFault.is ∙ ap (λ s. Err s) c.in-Err-DiskFault.field-0-is) before after faults now
    (names_of c.args.count c.args.sessions) (lines_of c.args.count c.args.sessions) left counts tt)

pub returns-in-Err-Memory : goal.returns-in-Err-Memory
returns-in-Err-Memory c = λ before after faults now ends left counts.
    untold_run (Err run.Memory) c.args.ended (c.in-Err-Memory.is ∙ ap (λ s. Err s) c.in-Err-Memory.field-0-is) before after faults now (names_of c.args.count c.args.sessions) (lines_of c.args.count c.args.sessions)
    left counts tt
