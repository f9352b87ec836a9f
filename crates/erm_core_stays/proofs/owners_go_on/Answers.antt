use Rattle.erm_core_stays.proofs.Owners.{owner_goes_on}
use Rattle.erm_core_stays.proofs.owners_go_on.Goals as goal

pub returns : goal.returns
returns c core d es oid owner number sound run known session owned = owner_goes_on c.events_keep_sound.ensures es core d oid owner number sound run known session owned
