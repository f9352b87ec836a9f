use Rattle.erm_client_told.proofs.Commits.{starved_tell_commits}
use Rattle.erm_client_told.proofs.laws.starved_transcripts_tell_commits.Goals as goal

pub returns : goal.returns
returns c = starved_tell_commits c.starved_runs_tell.ensures
