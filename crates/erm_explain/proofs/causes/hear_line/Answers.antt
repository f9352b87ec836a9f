use Rattle.std.proofs.Common.{◌<◌, arith}
use Rattle.erm_explain.proofs.Hearing.{on_both, told_alone, told_heard}
use Rattle.erm_explain.proofs.causes.hear_line.Goals as goal

pub returns-then-line-eq-NO_SESSION-clause-told : goal.returns-then-line-eq-NO_SESSION-clause-told
returns-then-line-eq-NO_SESSION-clause-told c script answers at told has =
    told_alone script answers c.args.place c.args.books.now c.args.line.now c.args.answer.now c.if-line-eq-NO_SESSION.true at told has

pub returns-clause-told : goal.returns-clause-told
returns-clause-told c =
    let differ = c.if-line-eq-NO_SESSION.false in
    let some : 0 < c.args.line.now.session = omega (arith, differ) in
    on_both c.hear.result _ _ _ (λ heard placed script answers at told has.
    told_heard script answers c.args.place c.args.books.now c.hear.new.self c.args.line.now c.args.answer.now some at told heard placed has) c.hear.ensures.heard c.hear.ensures.placed
