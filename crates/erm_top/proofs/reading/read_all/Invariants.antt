use Rattle.std.proofs.Common.{◌≡◌, ◌-◌, ◌≤◌, length, IfSome}
use Rattle.erm_top.proofs.Streams.{IsFront}
use Rattle.erm_top.proofs.reading.read_all.Given as goal

-- the bytes so far were the front of those left
abbrev pub invariant-loop-chunk : goal.invariant-loop-chunk
invariant-loop-chunk g l = record {
  short : length l.bytes.items ≤ 16777217;
  front : IfSome (g.S.Source.left l.fn.source) (λ left. IsFront l.bytes.items left (g.S.Source.left l.source));
  sound : g.S.Source.faults l.source ≡ g.S.Source.faults l.fn.source;
}

abbrev pub decreases-loop-chunk : goal.decreases-loop-chunk
decreases-loop-chunk g l = 16777217 - length l.bytes.items
