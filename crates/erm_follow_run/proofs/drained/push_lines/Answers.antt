use Rattle.std.proofs.Common.{◌∙◌}
use Rattle.erm_follow_run.proofs.Told.{front_at, on_err}
use Rattle.erm_follow_run.proofs.drained.push_lines.Goals as goal

pub returns-in_err-add-clause-front : goal.returns-in_err-add-clause-front
returns-in_err-add-clause-front c =
    on_err c.from_residual.result _ (front_at c.args.commits.now c.loop-commit.commit-index c.args.text.now c.add.new.self (c.in_err-add.ensures.err ∙ c.loop-commit.invariant))
