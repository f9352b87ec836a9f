use Rattle.std.proofs.Common.{take}
use Rattle.std.specs.List.{All}
use Rattle.erm_top.proofs.Fitting.{Fits}
use Rattle.erm_top.proofs.texts.try_each_text.Given as goal

-- the lines so far fit their types
abbrev pub invariant-loop-line : goal.invariant-loop-line
invariant-loop-line l = All Fits (take l.line-index l.lines)
