use Rattle.erm_core_shown.proofs.Laws.{serializable_shown}
use Rattle.erm_core_shown.proofs.states_are_serializable.Goals as goal

pub returns : goal.returns
returns g c sessions core under only =
    serializable_shown g.L.RowLaw.law sessions core under only (c.states_show_the_history.ensures.history sessions core under.sound only)
    (c.commits_are_certified.ensures core under.sound) (c.commits_are_a_snapshot_history.ensures core under.sound)
    (record {
      reads = λ seat t r m n. c.reads_and_claims_are_snapshots.ensures.reads core under.sound seat t r m n;
      claims = λ seat t w m n. c.reads_and_claims_are_snapshots.ensures.claims core under.sound seat t w m n;
      kept = λ seat t w m n unset. c.reads_and_claims_are_snapshots.ensures.kept core under.sound seat t w m n unset;
    })
