use Rattle.std.proofs.lemmas.Result.{err_from_is_err_and}
use Rattle.erm_script.specs.Words.{words_of, words_after}
use Rattle.erm_script.proofs.Faults.{later_fault}
use Rattle.erm_script.proofs.Seats.{seat_fits}
use Rattle.erm_script.proofs.parser.line.line.Goals as goal

pub returns-in_err-command-clause-fault : goal.returns-in_err-command-clause-fault
returns-in_err-command-clause-fault c =
    let p = err_from_is_err_and c.from_residual.result c.from_residual.ensures.1 in
    rw (p.1, p.2) (c.in_err-command.ensures.fault c.args.sessions.now (words_of c.args.bytes.now) c.in-Some.ensures.alone.0)

pub returns-in_err-command-2-clause-fault : goal.returns-in_err-command-2-clause-fault
returns-in_err-command-2-clause-fault c =
    let p = err_from_is_err_and c.from_residual-in_err-command-2.result c.from_residual-in_err-command-2.ensures.1 in
    let words = c.first.ensures in
    let named = c.in-Some-name.ensures.spelled in
    let own = rw (words, ← named.0) at c.in_default.ensures.other in
    rw (p.1, p.2, words, ← named.0)
    (later_fault c.args.grammar c.args.sessions.now c.in-Some-name.name (words_after c.first.result.1) _ own (rw named.0 named.1)
    (seat_fits c.args.grammar.sessions c.in-Some-name.name c.args.sessions.now c.in-Some-seat.seat c.in-Some-seat.ensures.seat) c.in_err-command-2.ensures.fault)
