use Rattle.std.proofs.Common.{◌≡◌, ◌<◌, ⊎_elim}
use Rattle.erm_model.specs.History.{below}
use Rattle.erm_machine.specs.Core.{blank}
use Rattle.erm_machine.specs.Decided.{history_of}
use Rattle.erm_machine.specs.Lawful.{opening_rows}
use Rattle.erm_core_ssn.proofs.Turns.{RunsBelow}
use Rattle.erm_core_possible.proofs.Fitting.{begins, possible_blank, possible_newest}
use Rattle.erm_core_possible.proofs.attempts_are_possible.Goals as goal

pub returns : goal.returns
returns g c core q t under m =
    let law = g.L.RowLaw.law in
    let h = history_of core.seats in
    let opening = opening_rows core.shared in
    let snapshot = c.commits_are_a_snapshot_history.ensures core under.sound in
    let certified = c.commits_are_certified.ensures core under.sound in
    let found = c.reads_and_claims_are_snapshots.ensures.claims core under.sound in
    let read = c.reads_and_claims_are_snapshots.ensures.reads core under.sound in
    ⊎_elim
    (λ (some : 0 < t.begin).
    let certified_below = c.prefixes_stand_alone.ensures.certified h certified t.begin in
    let order = c.serial_order_is_unique.ensures.exists (below t.begin h) certified_below in
    let runs : RunsBelow h opening t.begin order.0 = record {
      serial = order.1;
      run = c.rows_run_serially.ensures.run_below h opening snapshot certified t.begin order.0 order.1;
      newest = c.rows_run_serially.ensures.newest_below h opening snapshot certified t.begin order.0 order.1 some;
      one_row = c.versions_are_unique.ensures.row (below t.begin h) opening (c.prefixes_stand_alone.ensures.snapshot h opening snapshot t.begin) certified_below;
    } in
    possible_newest law core under found read q t m snapshot order.0 runs
    (λ oid stamp other_stamp row other first second. (c.versions_are_unique.ensures.newest h opening snapshot certified oid t.begin stamp other_stamp row other first second).1))
    (λ (none : t ≡ blank). possible_blank law core under found read q t m none)
    (begins law core under found read q t m)
