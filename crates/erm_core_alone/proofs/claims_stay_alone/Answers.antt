use Rattle.erm_core_alone.proofs.Kept.{kept, opening_alone}
use Rattle.erm_core_alone.proofs.claims_stay_alone.Goals as goal

pub returns-clause-opening : goal.returns-clause-opening
returns-clause-opening c = opening_alone

pub returns-clause-event : goal.returns-clause-event
returns-clause-event c core d seat kind sound old e = kept core seat kind d sound old e
