use Rattle.erm_client_disk.proofs.Done.{done}
use Rattle.erm_client_disk.proofs.laws.ended_clients_are_done.Goals as goal

pub returns : goal.returns
returns c =
    done c.commits_are_left.ensures c.transcripts_are_a_run.ensures c.transcripts_tell_commits.ensures.whole
    (record { run = c.transcripts_are_a_starved_run.ensures; tell = c.starved_transcripts_tell_commits.ensures; looks = c.starved_transcripts_tell_snapshots.ensures; told = c.starved_runs_tell.ensures })
