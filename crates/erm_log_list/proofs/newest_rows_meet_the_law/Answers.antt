use Rattle.erm_machine.specs.Decided.{history_of}
use Rattle.erm_machine.specs.Lawful.{opening_rows}
use Rattle.erm_log_list.proofs.Meets.{keeps_law}
use Rattle.erm_log_list.proofs.newest_rows_meet_the_law.Goals as goal

pub returns : goal.returns
returns g c core bound rows under positive holds =
    c.newest_rows_stay_lawful.ensures (history_of core.seats) (opening_rows core.shared) (c.commits_are_a_snapshot_history.ensures core under.sound)
    (c.commits_are_certified.ensures core under.sound) (keeps_law g.L.RowLaw.law core under (c.reads_and_claims_are_snapshots.ensures.claims core under.sound)) bound rows positive holds
