use Rattle.std.proofs.Common.{◌≡◌, take}
use Rattle.std.specs.List.{All}
use Rattle.erm_report.specs.Texts.{text_of}
use Rattle.erm_top.proofs.Fitting.{Fits}
use Rattle.erm_top.proofs.texts.lines_text.Given as goal

-- the text is that of the lines so far, which fit their types
abbrev pub invariant-loop-line : goal.invariant-loop-line
invariant-loop-line l = (l.text ≡ text_of (take l.line-index l.lines)) × All Fits (take l.line-index l.lines)
