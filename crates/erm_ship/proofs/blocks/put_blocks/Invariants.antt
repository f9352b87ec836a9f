use Rattle.std.proofs.Common.{◌≡◌, ℕ, ◌-◌, ◌≤◌, List, Option, length}
use Rattle.erm_block.specs.declared.block.Block.{Block}
use Rattle.erm_outside.specs.Disk.{Step}
use Rattle.erm_outside.specs.Sink.{Puts}
use Rattle.erm_replica.specs.declared.item.LogPlace.{LogPlace}
use Rattle.erm_ship.specs.Sends.{Sent, blocks_text}
use Rattle.erm_ship.proofs.blocks.put_blocks.Given as goal

-- blocks were put up to here; the disk tells what it told, and neither it nor the sink failed
pub record Putting (told told_now : Option (List Step)) (disk disk_now sink sink_now : ℕ) (before now : Option (List ℕ)) (start place : LogPlace) (end : ℕ) : Type 0 where
  pub blocks : List Block
  pub sent : Sent told start blocks place
  pub puts : Puts (blocks_text blocks) before now
  pub high : place.at ≤ end
  pub told_same : told_now ≡ told
  pub disk_same : disk_now ≡ disk
  pub sink_same : sink_now ≡ sink

abbrev pub invariant-loop-place : goal.invariant-loop-place
invariant-loop-place g l =
    Putting (g.D.Disk.told l.fn.disk) (g.D.Disk.told l.disk) (g.D.Disk.faults l.fn.disk) (g.D.Disk.faults l.disk) (g.K.Sink.faults l.fn.sink) (g.K.Sink.faults l.sink)
    (g.K.Sink.written l.fn.sink) (g.K.Sink.written l.sink) l.fn.start l.place l.end

abbrev pub decreases-loop-place : goal.decreases-loop-place
decreases-loop-place g l = l.end - l.place.at
