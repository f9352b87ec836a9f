use Rattle.std.proofs.Common.{◌+◌, ◌/◌, IfSome, arith}
use Rattle.erm_outside.specs.declared.disk.File.TheVariants.{Slot0, Slot1}
use Rattle.erm_outside.specs.Disk.{IsSettled}
use Rattle.erm_recover.specs.Waiting.{IsSettledIn}
use Rattle.erm_recover.proofs.Waits.{all_told, on_ok_then, one_told, same_told, told_join}
use Rattle.erm_recover.proofs.waiting.sync_pending.Goals as goal

pub returns-in_err-sync-clause-waits : goal.returns-in_err-sync-clause-waits
returns-in_err-sync-clause-waits g c =
    same_told (g.D.Disk.told c.args.disk.now) (g.D.Disk.told c.sync_removals.new.self) (g.D.Disk.told c.sync.new.self) c.sync_removals.ensures.waits c.in_err-sync.ensures.tried

pub returns-in_err-sync-2-clause-waits : goal.returns-in_err-sync-2-clause-waits
returns-in_err-sync-2-clause-waits g c =
    let old = g.D.Disk.told c.args.disk.now in
    let one = g.D.Disk.told c.sync.new.self in
    same_told old one (g.D.Disk.told c.sync-2.new.self) (one_told Slot0 old (g.D.Disk.told c.sync_removals.new.self) one c.sync_removals.ensures.waits c.in_ok-sync.ensures.told)
    c.in_err-sync-2.ensures.tried

pub returns-clause-waits : goal.returns-clause-waits
returns-clause-waits g c =
    let old = g.D.Disk.told c.args.disk.now in
    let one = g.D.Disk.told c.sync.new.self in
    let two = g.D.Disk.told c.sync-2.new.self in
    told_join old two (g.D.Disk.told c.sync_segments.new.disk)
    (one_told Slot1 old one two (one_told Slot0 old (g.D.Disk.told c.sync_removals.new.self) one c.sync_removals.ensures.waits c.in_ok-sync.ensures.told) c.in_ok-sync-2.ensures.told)
    c.sync_segments.ensures.waits

pub returns-clause-settled : goal.returns-clause-settled
returns-clause-settled g c =
    let end = g.D.Disk.told c.sync_segments.new.disk in
    on_ok_then c.sync_segments.result (IfSome end (IsSettledIn (c.args.base / 65536) (c.args.place / 65536 + 2))) (IfSome end IsSettled)
    (λ settled. all_told c.args.base c.args.place (c.args.place / 65536 + 2) (g.D.Disk.told c.args.disk.now) (g.D.Disk.told c.sync_removals.new.self) (g.D.Disk.told c.sync.new.self)
    (g.D.Disk.told c.sync-2.new.self) end c.requires.beyond c.sync_removals.ensures.waits c.in_ok-sync_removals.ensures.last c.in_ok-sync.ensures.told c.in_ok-sync-2.ensures.told
    c.sync_segments.ensures.waits settled (omega arith))
    c.sync_segments.ensures.settled
