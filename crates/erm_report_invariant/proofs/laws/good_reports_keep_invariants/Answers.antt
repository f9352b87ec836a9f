use Rattle.std.proofs.Common.{length}
use Rattle.std.specs.FinMap.{from_entries}
use Rattle.erm_model.specs.Database.{entries_of}
use Rattle.erm_good_report.specs.GoodReport.{places_of, serial_of}
use Rattle.erm_report_invariant.proofs.Looks.{all_keep}
use Rattle.erm_report_invariant.proofs.laws.good_reports_keep_invariants.Goals as goal

pub returns : goal.returns
returns g c invariant mode opening names script lines good holds keep =
    let answers = good.report.answers in
    let closed = good.report.closed in
    c.invariants_last_in_order.ensures invariant (serial_of (length names) (places_of script answers closed)) good.report.order opening.map (from_entries (entries_of good.report.pairs)) holds
    (all_keep (g.I.Invariant.holds invariant) (c.readers_keep_invariants.ensures invariant) script answers closed (length names) good.owes.phases good.closes.fits keep)
    good.order.serial good.order.run
