use Rattle.erm_client_told.proofs.laws.starved_transcripts_tell_snapshots.Goals as goal
use Rattle.erm_client_told.proofs.Snapshots.{starved_tell_snapshots}

pub returns : goal.returns
returns c = starved_tell_snapshots c.starved_runs_tell.ensures
