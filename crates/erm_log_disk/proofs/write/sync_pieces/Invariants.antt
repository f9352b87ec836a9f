use Rattle.std.proofs.Common.{◌≡◌, take}
use Rattle.std.specs.Option.{option_map}
use Rattle.erm_log_disk.specs.Pieces.{synced}
use Rattle.erm_log_disk.proofs.write.sync_pieces.Given as goal

-- the files of the first pieces were synced
abbrev pub invariant-loop-piece : goal.invariant-loop-piece
invariant-loop-piece g l = record {
  synced_are : g.D.Disk.told l.disk ≡ option_map (synced (take l.piece-index l.pieces)) (g.D.Disk.told l.fn.disk);
  sound : g.D.Disk.faults l.disk ≡ g.D.Disk.faults l.fn.disk;
}
