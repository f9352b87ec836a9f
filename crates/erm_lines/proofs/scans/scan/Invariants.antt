use Rattle.std.proofs.Common.{◌-◌, ◌^◌}
use Rattle.erm_lines.proofs.Scanning.{Scans}
use Rattle.erm_lines.proofs.scans.scan.Given as goal

abbrev pub invariant-loop-pair : goal.invariant-loop-pair
invariant-loop-pair g l = Scans g.T.RowRead.face l.fn.txn l.txn l.table l.low l.high l.from l.found.items

abbrev pub decreases-loop-pair : goal.decreases-loop-pair
decreases-loop-pair g l = 2 ^ 64 - l.from
