use Rattle.erm_core_stays.proofs.Running.{behind, ends_sound, steps}
use Rattle.erm_core_stays.proofs.runs_keep_sound.Goals as goal

pub returns-clause-sound : goal.returns-clause-sound
returns-clause-sound c core d es sound run = ends_sound c.events_keep_sound.ensures es core d sound run

pub returns-clause-behind : goal.returns-clause-behind
returns-clause-behind c b core d es fs first second = behind es fs b core d first second

pub returns-clause-steps : goal.returns-clause-steps
returns-clause-steps c core es = steps es core
