use Rattle.std.proofs.Common.{subst}
use Rattle.erm_replica.specs.declared.item.Item.{Item}
use Rattle.erm_replica.specs.Stream.{TakesNext}
use Rattle.erm_follow_run.proofs.Going.{may_hear_taken}
use Rattle.erm_follow_run.proofs.steps.step.Goals as goal

pub hear-requires-clause-may : goal.hear-requires-clause-may
hear-requires-clause-may c =
    may_hear_taken c.spelling_size.ensures.size c.args.stream.now c.next.new.self c.args.follow.now c.in-Ok-Block.block
    (subst (λ (i : Item). TakesNext c.args.stream.now i c.next.new.self) c.in-Ok-Block.field-0-is c.in-Ok-Block.ensures.item) c.requires.below
