use Rattle.erm_disk_run.proofs.Order.{reached_later}
use Rattle.erm_disk_run.proofs.laws.greater_places_are_reached_later.Goals as goal

pub returns : goal.returns
returns c = λ commits from a b place other old new. reached_later c.one_recovery.ensures commits from a b place other old new
