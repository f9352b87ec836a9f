use Rattle.std.proofs.Common.{codes, sym, ◌∙◌, inl, inr, refl}
use Rattle.std.proofs.lemmas.Bool.{false≢true}
use Rattle.erm_script.specs.Words.{words_of}
use Rattle.erm_script.proofs.Faults.{one_of_two, one_word}
use Rattle.erm_script.proofs.parser.line.lone_keyword.Goals as goal

pub returns-else-eq-2-clause-other : goal.returns-else-eq-2-clause-other
returns-else-eq-2-clause-other c =
    let flush = one_word c.args.line.now (codes "flush") c.eq.result (rw c.as_slice.ensures at c.eq.ensures) refl in
    let checkpoint = one_word c.args.line.now (codes "checkpoint") c.eq-else-eq.result (rw c.as_slice-else-eq.ensures at c.eq-else-eq.ensures) refl in
    λ alone. elim (one_of_two (words_of c.args.line.now) alone) [
      | inl e ↦ false≢true (sym c.if-eq.false ∙ flush.1 e)
      | inr e ↦ false≢true (sym c.if-eq-2.false ∙ checkpoint.1 e)
    ]
