use Rattle.std.proofs.Common.{take}
use Rattle.std.specs.List.{AllPairs}
use Rattle.erm_block.proofs.Distinct.{Apart}
use Rattle.erm_block.proofs.check.are_distinct.Given as goal

-- no two of the entries so far have one object
abbrev pub invariant-loop-i : goal.invariant-loop-i
invariant-loop-i l = AllPairs Apart (take l.i l.entries)
