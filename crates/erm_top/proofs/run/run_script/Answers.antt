use Rattle.std.proofs.Common.{arith}
use Rattle.erm_disk_run.proofs.Spelled.{can_be_run}
use Rattle.erm_top.specs.Scripts.{run_grammar}
use Rattle.erm_top.proofs.Texted.{tells_in_turn}
use Rattle.erm_top.proofs.run.run_script.Goals as goal

pub run_on_disk-disk-requires-clause-script : goal.run_on_disk-disk-requires-clause-script
run_on_disk-disk-requires-clause-script g c =
    rw c.deref.ensures.value (rw c.deref-2.ensures.value (can_be_run run_grammar c.requires.spelled.0 c.args.script.now.names.items c.args.script.now.lines.items (omega arith) c.requires.spelled.1 (omega (arith, c.requires.short))))

pub returns : goal.returns
returns g c =
    let ends = rw c.deref-2.ensures.value at (rw c.deref.ensures.value at c.run_on_disk-disk.ensures.ended) in
    let left = rw c.deref-2.ensures.value at (rw c.deref.ensures.value at c.run_on_disk-disk.ensures.untold) in
    tells_in_turn c.args.script.now.names.items c.args.script.now.lines.items _ _ _ _ c.script_text-told.result c.run_on_disk-disk.result.ended c.script_text-told.ensures ends left
    c.run_on_disk-disk.ensures.counts
