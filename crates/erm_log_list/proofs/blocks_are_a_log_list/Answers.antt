use Rattle.erm_log_list.proofs.Chain.{Laws}
use Rattle.erm_log_list.proofs.Commits.{log_list}
use Rattle.erm_log_list.proofs.blocks_are_a_log_list.Goals as goal

pub returns : goal.returns
returns g c core to under upto =
    let laws : Laws g.L.RowLaw.law core = record {
      certified = c.commits_are_certified.ensures core under.sound;
      snapshots = c.commits_are_a_snapshot_history.ensures core under.sound;
      meets = λ bound rows positive holds. c.newest_rows_meet_the_law.ensures core bound rows under positive holds;
    } in
    log_list g.L.RowLaw.law core to under upto laws c.spelling_size.ensures.size
