use Rattle.std.proofs.Common.{inl, inr, Some, None, drop, length, subst, sym, ap, ◌∙◌, arith}
use Rattle.erm_follow.specs.Waiting.{IsLeastFrom}
use Rattle.erm_follow.proofs.Due.{passes, breaks_safe, kept_rest, gives_due}
use Rattle.erm_follow.proofs.follow.Follow.take_safe.Goals.{then-safe-self-via-then-safe-self, then-safe-self-via-else-safe-self+then-safe-self-2}
use Rattle.erm_follow.proofs.follow.Follow.take_safe.Goals as goal

pub returns-then-safe-self-clause-given : goal.returns-then-safe-self-clause-given
returns-then-safe-self-clause-given c =
    rw c.new.ensures.items (passes c.self.inside.base c.self.inside.safe c.self.inside.waiting.keys c.self.invariant c.args.self.now c.self.inside.broken c.self.view_is c.requires c.args.safe
    (elim c.then-safe-self.branch [
      | then-safe-self-via-then-safe-self w ↦ inl (omega (arith, w.if-safe-self.true))
      | then-safe-self-via-else-safe-self+then-safe-self-2 w ↦ inr (omega (arith, w.if-safe-self-2.true))
    ]))

pub returns-in-Some-clause-stopped : goal.returns-in-Some-clause-stopped
returns-in-Some-clause-stopped c =
    inl (breaks_safe c.self.inside.base c.self.inside.safe c.self.inside.waiting.keys c.self.invariant c.args.self.now c.self.inside.broken c.self.view_is c.requires c.args.safe c.commits_below.ensures.ordered (omega (arith, c.if-safe-self.false)) (omega (arith, c.if-safe-self-2.false)) c.in-Ok.lines.items c.in-Ok.ensures.below c.in-Some.broken (subst (λ l. IsLeastFrom c.args.safe l (Some c.in-Some.broken)) c.deref.ensures.value (subst (λ r. IsLeastFrom c.args.safe c.deref.result.now r) c.in-Some.is c.broken_by.ensures)))

pub invariant_of-self-2 : goal.invariant_of-self-2
invariant_of-self-2 c =
    kept_rest c.self.inside.base c.self.inside.safe c.self.inside.waiting.keys c.self.invariant c.args.self.now c.self.inside.broken c.self.view_is c.requires c.args.safe c.commits_below.ensures.ordered (omega (arith, c.if-safe-self.false)) (omega (arith, c.if-safe-self-2.false)) c.in-Ok.lines.items c.in-Ok.ensures.below (subst (λ l. IsLeastFrom c.args.safe l None) c.deref.ensures.value (subst (λ r. IsLeastFrom c.args.safe c.deref.result.now r) c.in_default-broken_by.is c.broken_by.ensures)) c.drop_first.new.waiting.keys (c.drop_first.ensures ∙ ap (λ n. drop n c.self.inside.waiting.keys) (c.len.ensures ∙ sym c.deref.ensures.len ∙ ap length c.deref.ensures.value))

pub returns-clause-given : goal.returns-clause-given
returns-clause-given c =
    gives_due c.self.inside.base c.self.inside.safe c.self.inside.waiting.keys c.self.invariant c.args.self.now c.self.inside.broken c.self.view_is c.requires c.args.safe c.commits_below.ensures.ordered (omega (arith, c.if-safe-self.false)) (omega (arith, c.if-safe-self-2.false)) c.in-Ok.lines.items c.in-Ok.ensures.below (subst (λ l. IsLeastFrom c.args.safe l None) c.deref.ensures.value (subst (λ r. IsLeastFrom c.args.safe c.deref.result.now r) c.in_default-broken_by.is c.broken_by.ensures)) c.drop_first.new.waiting.keys (c.drop_first.ensures ∙ ap (λ n. drop n c.self.inside.waiting.keys) (c.len.ensures ∙ sym c.deref.ensures.len ∙ ap length c.deref.ensures.value))
