use Rattle.std.proofs.Common.{arith}
use Rattle.erm_run_at_once.proofs.Many.{as_many}
use Rattle.erm_run_at_once.proofs.report.report_up_to_fault.Goals as goal

pub cut_report-requires-clause-seats : goal.cut_report-requires-clause-seats
cut_report-requires-clause-seats c = λ l m.
    let fits = c.requires.seats l m in
    let parts = c.in_ok-parts.field-0.parts in
    let many = as_many parts.items c.args.works.items c.in_ok-parts.ensures.parts in
    let known = parts.ok.0 in
    let given = c.args.works.ok.0 in
    (fits.0, let high = fits.1 in omega (arith, high, many, known, given))
