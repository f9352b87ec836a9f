use Rattle.std.proofs.Common.{inl, arith}
use Rattle.erm_follow.proofs.Due.{breaks_commit, kept_with, waits_with}
use Rattle.erm_follow.proofs.follow.Follow.take_commit.Goals as goal

pub returns-then-commit-self-clause-stopped : goal.returns-then-commit-self-clause-stopped
returns-then-commit-self-clause-stopped c =
    inl (breaks_commit c.self.inside.base c.self.inside.safe c.self.inside.waiting.keys c.self.invariant c.args.self.now c.self.inside.broken c.self.view_is c.requires.whole c.args.commit c.requires.next (omega (arith, c.if-commit-self.true)))

pub invariant_of-self-2 : goal.invariant_of-self-2
invariant_of-self-2 c =
    kept_with c.self.inside.base c.self.inside.safe c.self.inside.waiting.keys c.self.invariant c.args.self.now c.self.inside.broken c.self.view_is c.requires.whole c.args.commit c.requires.next c.turn_of.result c.turn_of.ensures (omega (arith, c.if-commit-self.false)) c.insert.new.self.keys c.in-Ok.ensures.keys

pub returns-clause-given : goal.returns-clause-given
returns-clause-given c =
    rw c.new.ensures.items (waits_with c.self.inside.base c.self.inside.safe c.self.inside.waiting.keys c.self.invariant c.args.self.now c.self.inside.broken c.self.view_is c.requires.whole c.args.commit c.requires.next c.turn_of.result c.turn_of.ensures (omega (arith, c.if-commit-self.false)) c.insert.new.self.keys c.in-Ok.ensures.keys)
