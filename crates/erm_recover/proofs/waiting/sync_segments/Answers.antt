use Rattle.std.proofs.Common.{◌∙◌}
use Rattle.erm_recover.proofs.Waits.{next_told, one_told}
use Rattle.erm_outside.specs.declared.disk.File.TheVariants.{Segment}
use Rattle.erm_recover.proofs.waiting.sync_segments.Goals as goal

pub loop-number-preserved : goal.loop-number-preserved
loop-number-preserved g c =
    let n = c.loop-number.number in
    record {
      waits = one_told (Segment n) (g.D.Disk.told c.args.disk.now) (g.D.Disk.told c.loop-number.disk) (g.D.Disk.told c.sync.new.self) c.loop-number.invariant.waits c.in_ok-sync.ensures.told;
      settled = next_told c.args.first n (g.D.Disk.told c.loop-number.disk) (g.D.Disk.told c.sync.new.self) c.loop-number.invariant.settled c.in_ok-sync.ensures.told;
      sound = c.in_ok-sync.ensures.sound ∙ c.loop-number.invariant.sound;
    }
