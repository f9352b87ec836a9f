use Rattle.std.proofs.Common.{refl}
use Rattle.erm_top.proofs.Disks.{checkpoint_ends}
use Rattle.erm_top.proofs.checkpoint.checkpoint.Goals as goal

pub returns : goal.returns
returns g c = λ left faults.
    checkpoint_ends c.one_recovery.ensures c.put_told-status.result _ (record { left = refl; sound = refl }) c.checkpoint_text-told.result
    (c.checkpoint_text-told.ensures _ _ _ _ c.checkpoint_on_disk-disk.ensures.ended c.checkpoint_on_disk-disk.ensures.counts) c.put_told-status.ensures
