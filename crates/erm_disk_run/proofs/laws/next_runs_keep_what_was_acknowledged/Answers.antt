use Rattle.erm_disk_run.proofs.TwoRuns.{is_found, keeps_both}
use Rattle.erm_disk_run.proofs.laws.next_runs_keep_what_was_acknowledged.Goals as goal

pub returns-clause-found : goal.returns-clause-found
returns-clause-found c = λ commits from found a place old entry.
    is_found c.one_recovery.ensures c.same_rows_same_map.ensures commits from found a place old entry

pub returns-clause-keeps : goal.returns-clause-keeps
returns-clause-keeps c = λ first second from found a place old entry new since has settles. keeps_both first second from found a place old entry new since has settles
