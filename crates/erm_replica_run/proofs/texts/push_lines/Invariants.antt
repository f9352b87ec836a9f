use Rattle.std.proofs.Common.{◌≡◌, take}
use Rattle.erm_report.specs.Texts.{text_of}
use Rattle.erm_replica_run.proofs.texts.push_lines.Given as goal

abbrev pub invariant-loop-line : goal.invariant-loop-line
invariant-loop-line l = l.more ≡ text_of (take l.line-index l.lines)
