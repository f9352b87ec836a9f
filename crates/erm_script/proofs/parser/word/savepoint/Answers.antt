use Rattle.std.proofs.Common.{◌∙◌, sym, arith}
use Rattle.std.proofs.lemmas.Fmt.{decimal_injective}
use Rattle.erm_script.proofs.parser.word.savepoint.Goals as goal

pub returns-then-number-from-clause-refused : goal.returns-then-number-from-clause-refused
returns-then-number-from-clause-refused c = λ n small e.
    let same = decimal_injective c.in_ok-number.number n (omega arith) (omega (arith, small)) (sym c.in_ok-number.ensures.spelled ∙ e) in
    omega (arith, small)
