use Rattle.std.proofs.lemmas.Result.{on_err_weaker, on_ok_weaker}
use Rattle.erm_log_disk.proofs.Exits.{on_err}
use Rattle.erm_outside.specs.Disk.{Tells}
use Rattle.erm_checkpoint.specs.Steps.{SavesPart}
use Rattle.erm_checkpoint.proofs.Removed.{told_saved, told_saved_part, told_write_part}
use Rattle.erm_checkpoint.proofs.saving.save.Goals as goal

pub returns-in_err-write_slot-clause-part : goal.returns-in_err-write_slot-clause-part
returns-in_err-write_slot-clause-part g c =
    on_err c.from_residual.result (Tells (SavesPart c.args.file c.args.slot.now c.args.first c.args.end) (g.D.Disk.told c.args.disk.now) (g.D.Disk.told c.write_slot.new.disk))
    (told_write_part c.args.file c.args.slot.now c.args.first c.args.end (g.D.Disk.told c.args.disk.now) (g.D.Disk.told c.write_slot.new.disk) c.in_err-write_slot.ensures.part)

pub returns-clause-saved : goal.returns-clause-saved
returns-clause-saved g c =
    on_ok_weaker c.remove_segments.result
    (told_saved c.args.file c.args.slot.now c.args.first c.args.end (g.D.Disk.told c.args.disk.now) (g.D.Disk.told c.write_slot.new.disk) (g.D.Disk.told c.remove_segments.new.disk) c.in_ok-write_slot.ensures.written)
    c.remove_segments.ensures.removed

pub returns-clause-part : goal.returns-clause-part
returns-clause-part g c =
    on_err_weaker c.remove_segments.result
    (told_saved_part c.args.file c.args.slot.now c.args.first c.args.end (g.D.Disk.told c.args.disk.now) (g.D.Disk.told c.write_slot.new.disk) (g.D.Disk.told c.remove_segments.new.disk) c.in_ok-write_slot.ensures.written)
    c.remove_segments.ensures.part
