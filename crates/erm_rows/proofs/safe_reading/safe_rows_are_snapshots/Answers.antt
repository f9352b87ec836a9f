use Rattle.std.proofs.Common.{ℕ, List, subst}
use Rattle.erm_machine.specs.Decided.{history_of}
use Rattle.erm_machine.specs.Lawful.{opening_rows}
use Rattle.erm_model.specs.History.{IsNewestBelow}
use Rattle.erm_safe_reads.specs.Calls.{stamp_of}
use Rattle.erm_rows.proofs.safe_reading.safe_rows_are_snapshots.Goals as goal

pub returns : goal.returns
returns c core p version row sound safe object found =
    subst (λ (r : List ℕ). IsNewestBelow (history_of core.seats) (opening_rows core.shared) version.oid (core.seats p).current.begin (stamp_of core version) r) found.row_is
    (c.safe_reads_are_snapshots.ensures core p version.oid version.place (stamp_of core version) sound safe object found.newest)
