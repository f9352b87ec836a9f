use Rattle.std.proofs.Common.{◌≡◌, ◌-◌, length}
use Rattle.erm_node.specs.Sound.{IsSound}
use Rattle.erm_replica_rows.specs.Keeping.{GoesOn, kept_of}
use Rattle.erm_replica_rows.specs.Reading.{CanRead, HasLawful}
use Rattle.erm_replica_rows.proofs.snapshot.drain.Given as goal

abbrev pub invariant-items : goal.invariant-items
invariant-items l = record {
  goes : GoesOn (kept_of l.fn.end l.fn.snapshot l.fn.bytes) (kept_of l.end l.snapshot l.fn.bytes);
  ready : CanRead l.end (length l.fn.bytes);
  since : CanRead l.snapshot.reader (length l.fn.bytes);
  lawful : HasLawful IsSound l.end;
  words : length l.words ≡ 278535;
}

abbrev pub decreases-items : goal.decreases-items
decreases-items l = length l.fn.bytes - l.end.index
