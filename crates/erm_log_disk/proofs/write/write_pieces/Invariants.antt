use Rattle.std.proofs.Common.{◌≡◌, take}
use Rattle.std.specs.Option.{option_map}
use Rattle.erm_log_disk.specs.Pieces.{written}
use Rattle.erm_log_disk.proofs.write.write_pieces.Given as goal

-- the first pieces were written
abbrev pub invariant-loop-piece : goal.invariant-loop-piece
invariant-loop-piece g l = record {
  wrote : g.D.Disk.told l.disk ≡ option_map (written l.bytes (take l.piece-index l.pieces)) (g.D.Disk.told l.fn.disk);
  sound : g.D.Disk.faults l.disk ≡ g.D.Disk.faults l.fn.disk;
}
