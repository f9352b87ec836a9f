use Rattle.erm_client_disk.proofs.Outlive.{outlive}
use Rattle.erm_client_disk.proofs.laws.ended_clients_outlive.Goals as goal

pub returns : goal.returns
returns c =
    outlive c.commits_outlive.ensures
    (record { run = c.transcripts_are_a_starved_run.ensures; tell = c.starved_transcripts_tell_commits.ensures; looks = c.starved_transcripts_tell_snapshots.ensures; told = c.starved_runs_tell.ensures })
