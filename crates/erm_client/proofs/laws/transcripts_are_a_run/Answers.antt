use Rattle.erm_client.proofs.Joined.{are_run}
use Rattle.erm_client.proofs.laws.transcripts_are_a_run.Goals as goal

pub returns : goal.returns
returns c = are_run
