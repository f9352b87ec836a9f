use Rattle.erm_sound.proofs.Steps.{step_sound}
use Rattle.erm_sound.proofs.steps_keep_sound.Goals as goal

pub returns : goal.returns
returns g core e sound = step_sound core e (λ d is. g.events_keep_sound.ensures core d e.seat e.kind sound is) sound
