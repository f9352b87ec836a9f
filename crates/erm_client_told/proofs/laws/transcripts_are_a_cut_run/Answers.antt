use Rattle.erm_client_told.proofs.Cut.{are_cut}
use Rattle.erm_client_told.proofs.laws.transcripts_are_a_cut_run.Goals as goal

pub returns : goal.returns
returns c = are_cut c.works_are_a_cut_run.ensures.run
