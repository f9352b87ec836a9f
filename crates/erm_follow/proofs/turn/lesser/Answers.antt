use Rattle.std.proofs.Common.{refl, arith}
use Rattle.erm_follow.proofs.Breaking.{least-below, least-behind, least-before}
use Rattle.erm_follow.proofs.turn.lesser.Goals.{then-commit-safe-via-then-commit-safe, then-commit-safe-via-else-commit-safe+then-not-is_less}
use Rattle.erm_follow.proofs.turn.lesser.Goals as goal

pub returns-then-commit-safe : goal.returns-then-commit-safe
returns-then-commit-safe c = λ commits old.
    elim c.then-commit-safe.branch [
      | then-commit-safe-via-then-commit-safe w ↦ least-below c.args.safe c.args.commit.now commits c.args.least old (omega (arith, w.if-commit-safe.true))
      | then-commit-safe-via-else-commit-safe+then-not-is_less w ↦
          let more = w.if-not-is_less.ensures.more refl in
          least-behind c.args.safe c.args.commit.now commits c.args.least more.0 old more.1 more.2
    ]

pub returns : goal.returns
returns c = λ commits old.
    least-before c.args.safe c.args.commit.now commits c.args.least old (omega (arith, c.if-commit-safe.false)) (c.if-not-is_less.ensures.less refl)
