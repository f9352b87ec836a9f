use Rattle.erm_node.specs.Sound.{sound_law}
use Rattle.erm_maps.proofs.Extended.{fitted_before}
use Rattle.erm_maps.proofs.answers_stay.Goals as goal

pub returns : goal.returns
returns g w u steps more answered = λ rows sound fits. answered rows sound (fitted_before sound_law w u more rows fits)
