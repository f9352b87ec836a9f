use Rattle.erm_works.proofs.Cuts.{are_a_starved_run}
use Rattle.erm_works.proofs.laws.works_are_a_starved_run.Goals as goal

pub returns : goal.returns
returns c = record { run = are_a_starved_run }
