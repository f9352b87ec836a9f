use Rattle.std.proofs.Common.{ap, ◌∙◌}
use Rattle.erm_rule.specs.declared.view.Start.{Start}
use Rattle.erm_desk_cases.proofs.steps.take.Goals as goal

pub with-desk-requires-clause-flushed : goal.with-desk-requires-clause-flushed
with-desk-requires-clause-flushed g c d is = c.requires.opened.unflushed d is ∙ ap (λ (s : Start). s.tail) c.requires.start
