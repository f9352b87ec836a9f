-- The lines of the serial order.
use Rattle.erm_report.specs.declared.line.Line.{Line}
use Rattle.erm_report.specs.declared.line.Line.TheVariants as line

-- the line tells of a turn in the serial order: of a commit, or of a safe snapshot
abbrev pub IsTurn : Line → Type 0
IsTurn (line.Commit session number stamp succ pred) = Unit {0}
IsTurn (line.Safe session number at) = Unit {0}
IsTurn l = ⊥
