use Rattle.std.proofs.Common.{◌≢◌, ◌≡◌, ◌/◌, length, ◌∷◌, [], ◌∙◌, sym, inl, inr, arith, rules, refl}
use Rattle.erm_script.proofs.Words.{apart, no_digits, other_value, value_is_made, value_of_digits}
use Rattle.erm_script.proofs.parser.word.value.Goals as goal

pub returns-then-length-eq0-clause-refused : goal.returns-then-length-eq0-clause-refused
returns-then-length-eq0-clause-refused c = λ value ok.
    let dash : c.args.word.now ≢ 45 ∷ [] = λ e. apart c.args.word.now c.as_slice.result.now c.eq.result c.eq.ensures c.if-eq.false (e ∙ sym c.as_slice.ensures) in
    no_digits c.args.word.now value ok dash (elim c.then-length-eq0.either [ inl none ↦ inl none | inr many ↦ inr many.1 ])

pub returns-then-not-decode_lower-clause-refused : goal.returns-then-not-decode_lower-clause-refused
returns-then-not-decode_lower-clause-refused c = λ value ok.
    let dash : c.args.word.now ≢ 45 ∷ [] = λ e. apart c.args.word.now c.as_slice.result.now c.eq.result c.eq.ensures c.if-eq.false (e ∙ sym c.as_slice.ensures) in
    let other = rw c.if-not-decode_lower.true at c.decode_lower.ensures.other in
    other_value c.args.word.now value (length c.args.word.now / 2) dash refl (λ bytes below long. other bytes below (search rules)) ok

pub returns-clause-refused : goal.returns-clause-refused
returns-clause-refused c =
    let known : length c.decode_lower.new.bytes ≡ length c.args.word.now / 2 = search rules in
    value_is_made c.args.word.now c.decode_lower.new.bytes c.new-2.result (omega (arith, known)) c.new-2.ensures.fits

pub returns-clause-spelled : goal.returns-clause-spelled
returns-clause-spelled c =
    let spelled = rw c.if-not-decode_lower.false at c.decode_lower.ensures.spelled in
    let known : length c.decode_lower.new.bytes ≡ length c.args.word.now / 2 = search rules in
    value_of_digits c.args.word.now c.decode_lower.new.bytes c.new-2.result spelled (omega (arith, known)) (omega (arith, known)) c.new-2.ensures.bytes
