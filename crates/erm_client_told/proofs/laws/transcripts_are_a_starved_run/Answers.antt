use Rattle.erm_client_told.proofs.laws.transcripts_are_a_starved_run.Goals as goal
use Rattle.erm_client_told.proofs.Starved.{are_starved}

pub returns : goal.returns
returns c = are_starved
