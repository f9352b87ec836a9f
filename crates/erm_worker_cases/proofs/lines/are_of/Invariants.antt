use Rattle.std.proofs.Common.{◌≡◌, ℕ, ◌<◌, Some}
use Rattle.std.specs.List.{slice_get}
use Rattle.erm_script.specs.declared.script.ScriptLine.{ScriptLine}
use Rattle.erm_worker_cases.specs.Lines.{IsOf}
use Rattle.erm_worker_cases.proofs.lines.are_of.Given as goal

abbrev pub invariant-loop-line : goal.invariant-loop-line
invariant-loop-line l = (k : ℕ) → k < l.line-index → (x : ScriptLine) → slice_get l.lines k ≡ Some x → IsOf l.seat x
