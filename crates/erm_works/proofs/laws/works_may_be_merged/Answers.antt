use Rattle.erm_works.proofs.Places.{are_all, are_first}
use Rattle.erm_works.proofs.laws.works_may_be_merged.Goals as goal

pub returns : goal.returns
returns c = record { first = are_first; all = are_all }
