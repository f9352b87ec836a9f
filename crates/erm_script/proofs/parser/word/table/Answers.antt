use Rattle.std.proofs.Common.{◌∙◌, sym, arith}
use Rattle.std.proofs.lemmas.Fmt.{decimal_injective}
use Rattle.erm_script.proofs.parser.word.table.Goals as goal

pub returns-then-table-last-clause-refused : goal.returns-then-table-last-clause-refused
returns-then-table-last-clause-refused c = λ n small e.
    let same = decimal_injective c.in_ok-table.table n (omega arith) (omega arith) (sym c.in_ok-table.ensures.spelled ∙ e) in
    omega arith
