use Rattle.erm_beside_cases.proofs.Parts.{AreOfUpto}
use Rattle.erm_beside_cases.proofs.runs.checked.Given as goal

abbrev pub invariant-loop-place : goal.invariant-loop-place
invariant-loop-place l = AreOfUpto (λ p. p.items) l.parts.items l.place
