use Rattle.std.proofs.Common.{arith}
use Rattle.erm_run_at_once.proofs.report.report_ran.Goals as goal

pub report_up_to_fault-requires-clause-seats : goal.report_up_to_fault-requires-clause-seats
report_up_to_fault-requires-clause-seats c = λ l m.
    let fits = c.requires.may.seats l m in
    let known = c.args.ran.sessions.ok.0 in
    (fits.0, let high = fits.1 in omega (arith, high, known))

pub whole_report-requires-clause-seats : goal.whole_report-requires-clause-seats
whole_report-requires-clause-seats c = λ l m.
    let fits = c.requires.may.seats l m in
    let known = c.args.ran.sessions.ok.0 in
    (fits.0, let high = fits.1 in omega (arith, high, known))
