use Rattle.std.proofs.Common.{◌≡◌, ◌++◌, take}
use Rattle.erm_follow_run.specs.Texts.{lines_text}
use Rattle.erm_follow_run.proofs.drained.push_lines.Given as goal

abbrev pub invariant-loop-commit : goal.invariant-loop-commit
invariant-loop-commit l = l.text ≡ l.fn.text ++ lines_text (take l.commit-index l.commits)
