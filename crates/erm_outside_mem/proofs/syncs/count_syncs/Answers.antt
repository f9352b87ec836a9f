use Rattle.std.proofs.Common.{rules, ◌+◌, ◌<◌, ◌^◌, length, drop}
use Rattle.std.specs.BTreeMap.{get}
use Rattle.std.specs.Map.{count_at}
use Rattle.erm_outside.specs.contracts.disk.FileOrd.TheImpl as file_order
use Rattle.erm_outside_mem.proofs.SyncCounts.{counts_fit, drop-note}
use Rattle.erm_outside_mem.proofs.syncs.count_syncs.Goals as goal

pub count_note-requires : goal.count_note-requires
count_note-requires c =
    let note = c.note-item.result in
    let all = c.args.done.now in
    let rest = drop-note all c.loop-note.note-index note c.loop-note-test.true c.note-item.is in
    let counted = rw rest at (c.loop-note.invariant note.file) in
    let fits : length all < 2 ^ 64 = search rules in
    counts_fit note (drop (c.loop-note.note-index + 1) all) all (count_at (get file_order.ghosts.cmp c.loop-note.counts) note.file) counted fits
