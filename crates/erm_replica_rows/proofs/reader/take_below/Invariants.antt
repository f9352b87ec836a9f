use Rattle.std.proofs.Common.{◌≡◌, ◌-◌, length}
use Rattle.erm_replica_rows.specs.Moving.{MovesBelow}
use Rattle.erm_replica_rows.specs.Reading.{CanRead}
use Rattle.erm_replica_rows.proofs.reader.take_below.Given as goal

abbrev pub invariant-loop-reader : goal.invariant-loop-reader
invariant-loop-reader l = record {
  moves : MovesBelow l.fn.stamp l.fn.bytes l.fn.reader l.reader;
  ready : CanRead l.reader (length l.fn.bytes);
  words : length l.words ≡ 278535;
}

abbrev pub decreases-loop-reader : goal.decreases-loop-reader
decreases-loop-reader l = length l.fn.bytes - l.reader.index
