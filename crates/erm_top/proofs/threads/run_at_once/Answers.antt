use Rattle.std.proofs.Common.{arith}
use Rattle.erm_top.proofs.Spelled.{can_run_at_once}
use Rattle.erm_top.proofs.Texted.{tells_at_once}
use Rattle.erm_top.proofs.threads.run_at_once.Goals as goal

pub run_at_once_on_disk-disk-requires-clause-script : goal.run_at_once_on_disk-disk-requires-clause-script
run_at_once_on_disk-disk-requires-clause-script g c κs within =
    rw c.deref.ensures.value (rw c.deref-2.ensures.value (can_run_at_once c.requires.spelled.0 c.args.script.now.names.items c.args.script.now.lines.items c.requires.spelled.1 (omega (arith, c.requires.short))))

pub returns : goal.returns
returns g c =
    let ends = rw c.deref-2.ensures.value at (rw c.deref.ensures.value at c.run_at_once_on_disk-disk.ensures.ended) in
    let left = rw c.deref-2.ensures.value at (rw c.deref.ensures.value at c.run_at_once_on_disk-disk.ensures.untold) in
    tells_at_once c.args.script.now.names.items c.args.script.now.lines.items _ _ _ _ c.script_text-told.result c.run_at_once_on_disk-disk.result.ended c.script_text-told.ensures ends
    left c.run_at_once_on_disk-disk.ensures.counts
