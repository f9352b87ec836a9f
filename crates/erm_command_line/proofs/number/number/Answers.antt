use Rattle.std.proofs.Common.{◌≡◌, ◌<◌, ◌∙◌, ◌^◌, arith, sym, ap, decimal, ℕ}
use Rattle.std.proofs.lemmas.Fmt.{parse-decimal}
use Rattle.erm_command_line.proofs.Numbers.{other_bytes, same_read, unread_spells_none}
use Rattle.erm_command_line.proofs.number.number.Goals as goal

pub returns-in_err-number-clause-refused : goal.returns-in_err-number-clause-refused
returns-in_err-number-clause-refused c =
    rw c.from_residual.ensures (λ n some few. unread_spells_none c.args.word.now c.parse.result n c.parse.ensures.value.0 (sym c.in_err-number.ensures.value) (let top = c.ranges.most.fits in omega (arith, few, top)))

pub returns-then-number-lt1-clause-refused : goal.returns-then-number-lt1-clause-refused
returns-then-number-lt1-clause-refused c = λ n some few e.
    let top = c.ranges.most.fits in
    let small : n < 2 ^ 32 = omega (arith, few, top) in
    let read = parse-decimal 32 n c.args.word.now c.parse.result small (omega (arith, small)) e c.parse.ensures.value.0 in
    let number : c.in_ok-number.number ≡ n = same_read c.parse.result c.in_ok-number.number n c.in_ok-number.ensures.value read in
    let low = c.if-number-lt1.true in
    omega (arith, some, low, number)

pub returns-then-number-most-clause-refused : goal.returns-then-number-most-clause-refused
returns-then-number-most-clause-refused c = λ n some few e.
    let top = c.ranges.most.fits in
    let small : n < 2 ^ 32 = omega (arith, few, top) in
    let read = parse-decimal 32 n c.args.word.now c.parse.result small (omega (arith, small)) e c.parse.ensures.value.0 in
    let number : c.in_ok-number.number ≡ n = same_read c.parse.result c.in_ok-number.number n c.in_ok-number.ensures.value read in
    let high = c.if-number-most.true in
    omega (arith, few, high, number)

pub returns-else-eq-clause-refused : goal.returns-else-eq-clause-refused
returns-else-eq-clause-refused c = λ n some few e.
    let top = c.ranges.most.fits in
    let small : n < 2 ^ 32 = omega (arith, few, top) in
    let read = parse-decimal 32 n c.args.word.now c.parse.result small (omega (arith, small)) e c.parse.ensures.value.0 in
    let number : c.in_ok-number.number ≡ n = same_read c.parse.result c.in_ok-number.number n c.in_ok-number.ensures.value read in
    other_bytes _ _ _ c.eq.ensures c.if-eq.false (c.as_bytes.ensures.value ∙ (c.format.ensures.text ∙ (ap decimal number ∙ (sym e ∙ sym c.as_bytes-2.ensures.value))))
