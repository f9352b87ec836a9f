use Rattle.erm_core_view.proofs.Serial.{serializable}
use Rattle.erm_core_view.proofs.views_are_serializable.Goals as goal

pub returns : goal.returns
returns g c sessions core under quiet =
    serializable g.L.RowLaw.law sessions core under quiet (c.views_have_the_history.ensures sessions core under.sound quiet)
    (c.commits_are_certified.ensures core under.sound) (c.commits_are_a_snapshot_history.ensures core under.sound)
    (record {
      reads = λ seat t r m n. c.reads_and_claims_are_snapshots.ensures.reads core under.sound seat t r m n;
      claims = λ seat t w m n. c.reads_and_claims_are_snapshots.ensures.claims core under.sound seat t w m n;
      kept = λ seat t w m n unset. c.reads_and_claims_are_snapshots.ensures.kept core under.sound seat t w m n unset;
    })
