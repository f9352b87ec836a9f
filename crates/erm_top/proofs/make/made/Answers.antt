use Rattle.std.proofs.Common.{refl, arith}
use Rattle.erm_make.specs.Texts.{script_text}
use Rattle.erm_make.specs.Workload.{names_of}
use Rattle.erm_top.specs.Makes.{lines_of}
use Rattle.erm_top.specs.Scripts.{run_grammar}
use Rattle.erm_disk_run.proofs.Spelled.{can_be_run}
use Rattle.erm_top.proofs.make.made.Goals as goal

pub run_in_lists-disk-requires-clause-script : goal.run_in_lists-disk-requires-clause-script
run_in_lists-disk-requires-clause-script g c =
    let names = names_of c.args.count c.args.sessions in
    let lines = lines_of c.args.count c.args.sessions in
    let short = rw c.in-Ok.ensures.lines at c.in-Ok.ensures.short in
    rw c.deref.ensures.value (rw c.deref-in-Ok.ensures.value (rw c.in-Ok.ensures.names (rw c.in-Ok.ensures.lines
    (can_be_run run_grammar (script_text names lines) names lines (omega arith)
    (c.workloads_are_scripts.ensures.whole run_grammar c.args.count c.args.sessions c.requires.some c.requires.one (omega (arith, c.requires.few)) (omega (arith, c.requires.few)) refl refl)
    (omega (arith, short, c.requires.most))))))
