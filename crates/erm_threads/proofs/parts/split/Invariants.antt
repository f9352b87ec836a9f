use Rattle.std.proofs.Common.{take}
use Rattle.erm_threads.specs.Parts.{AreParts}
use Rattle.erm_threads.proofs.parts.split.Given as goal

-- the lines so far were split
abbrev pub invariant-loop-line : goal.invariant-loop-line
invariant-loop-line l = AreParts (λ p. p.items) l.sessions (take l.line-index l.script) l.parts.items
