use Rattle.erm_works.proofs.Cuts.{are_a_cut_run}
use Rattle.erm_works.proofs.laws.works_are_a_cut_run.Goals as goal

pub returns : goal.returns
returns c = record { run = are_a_cut_run }
