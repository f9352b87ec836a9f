use Rattle.erm_log_disk.proofs.Trail.{images_spare}
use Rattle.erm_log_disk.proofs.laws.writes_spare_others.Goals as goal

pub returns : goal.returns
returns c = λ at words old more image settled writes is. images_spare at words old more image settled writes is
