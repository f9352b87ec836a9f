use Rattle.erm_rule.proofs.Notes.{notes_kept, event_kept}
use Rattle.erm_rule.proofs.laws.notes_are_kept.Goals as goal

pub returns-clause-step : goal.returns-clause-step
returns-clause-step c seat kind found s x y e = (notes_kept seat kind found s x y e).more

pub returns-clause-event : goal.returns-clause-event
returns-clause-event c before after seat kind e p = (event_kept before after seat kind e p).more
