use Rattle.erm_client_told.proofs.Commits.{tell_commits}
use Rattle.erm_client_told.proofs.Whole.{whole_commits}
use Rattle.erm_client_told.proofs.laws.transcripts_tell_commits.Goals as goal

pub returns : goal.returns
returns c = record { cut = tell_commits c.cut_runs_close_unseen.ensures; whole = whole_commits c.runs_at_once_close_sessions.ensures }
