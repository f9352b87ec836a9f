use Rattle.erm_core_lives.proofs.LivesKept.{kept}
use Rattle.erm_core_lives.proofs.lives_are_kept.Goals as goal

pub returns : goal.returns
returns c = record { seats = λ core d seat kind sound e. kept core seat kind d sound e }
