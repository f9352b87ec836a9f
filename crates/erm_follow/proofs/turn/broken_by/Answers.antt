use Rattle.std.proofs.Common.{take, subst, sym}
use Rattle.std.proofs.lemmas.List.{take_more, take_all}
use Rattle.erm_follow.specs.Waiting.{IsLeastFrom}
use Rattle.erm_follow.proofs.turn.broken_by.Goals as goal

pub loop-commit-preserved : goal.loop-commit-preserved
loop-commit-preserved c =
    subst (λ l. IsLeastFrom c.args.safe l c.lesser-least.result) (sym (take_more c.args.commits.now c.loop-commit.commit-index _ c.loop-commit-test.true))
    (c.lesser-least.ensures (take c.loop-commit.commit-index c.args.commits.now) c.loop-commit.invariant)

pub returns : goal.returns
returns c =
    subst (λ l. IsLeastFrom c.args.safe l c.loop-commit.least) (take_all c.loop-commit.commit-index c.args.commits.now c.loop-commit-test.false) c.loop-commit.invariant
