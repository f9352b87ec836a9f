use Rattle.std.proofs.Common.{◌≡◌, ◌-◌, ◌≤◌, length, take}
use Rattle.erm_outside.specs.Sink.{Puts}
use Rattle.erm_outside.proofs.sink.put_all.Given as goal

-- the bytes up to a place were put, and the sink did not fail
abbrev pub invariant-loop-at : goal.invariant-loop-at
invariant-loop-at g l = record {
  within : l.at ≤ length l.bytes;
  put : Puts (take l.at l.bytes) (g.K.Sink.written l.fn.sink) (g.K.Sink.written l.sink);
  sound : g.K.Sink.faults l.sink ≡ g.K.Sink.faults l.fn.sink;
}

abbrev pub decreases-loop-at : goal.decreases-loop-at
decreases-loop-at g l = length l.bytes - l.at
