use Rattle.std.proofs.Common.{take}
use Rattle.erm_follow.specs.Waiting.{IsLeastFrom}
use Rattle.erm_follow.proofs.turn.broken_by.Given as goal

abbrev pub invariant-loop-commit : goal.invariant-loop-commit
invariant-loop-commit l = IsLeastFrom l.safe (take l.commit-index l.commits) l.least
