use Rattle.std.proofs.Common.{arith}
use Rattle.erm_run_at_once.proofs.Many.{as_many, few_closed}
use Rattle.erm_run_at_once.proofs.report.whole_report.Goals as goal

pub merge-requires-clause-seats : goal.merge-requires-clause-seats
merge-requires-clause-seats c = λ l m.
    let fits = c.requires.seats l m in
    let parts = c.in_ok-parts.field-0.parts in
    let many = as_many parts.items c.args.works.items c.in_ok-parts.ensures.parts in
    let known = parts.ok.0 in
    let given = c.args.works.ok.0 in
    (fits.0, let high = fits.1 in omega (arith, high, many, known, given))

pub report_of-requires-clause-short : goal.report_of-requires-clause-short
report_of-requires-clause-short c =
    let most = few_closed c.in_ok-parts.field-0.closed.items c.args.works.items c.in_ok-parts.ensures.closed in
    let few = c.requires.few in
    let short = c.requires.short in
    let given = c.args.works.ok.0 in
    omega (arith, most, few, short, given)
