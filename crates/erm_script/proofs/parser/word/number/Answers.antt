use Rattle.std.proofs.Common.{◌≡◌, ◌∙◌, sym, ap, decimal}
use Rattle.std.proofs.lemmas.Fmt.{parse-decimal}
use Rattle.erm_script.proofs.Words.{apart, no_text, text_bytes, same_read, IsUtf8-decimal, unread_spells_none}
use Rattle.erm_script.proofs.parser.word.number.Goals as goal

pub returns-in_err-ok-clause-refused : goal.returns-in_err-ok-clause-refused
returns-in_err-ok-clause-refused c =
    let bad = no_text c.args.word.now c.from_utf8.result (sym c.in_err-ok.ensures.value) c.from_utf8.ensures.cases in
    rw c.from_residual.ensures (λ n small e. bad (IsUtf8-decimal c.args.word.now n small e))

pub returns-in_err-number-clause-refused : goal.returns-in_err-number-clause-refused
returns-in_err-number-clause-refused c =
    let same = text_bytes c.args.word.now c.from_utf8.result c.in_ok-ok.field-0 (sym c.in_ok-ok.ensures.value) c.from_utf8.ensures.cases in
    rw c.from_residual-in_err-number.ensures
    (λ n small e. unread_spells_none c.in_ok-ok.field-0.now c.parse.result n c.parse.ensures.value.0 (sym c.in_err-number.ensures.value) small (same ∙ e))

pub returns-else-eq-clause-refused : goal.returns-else-eq-clause-refused
returns-else-eq-clause-refused c = λ n small e.
    let same = text_bytes c.args.word.now c.from_utf8.result c.in_ok-ok.field-0 (sym c.in_ok-ok.ensures.value) c.from_utf8.ensures.cases in
    let read = parse-decimal 64 n c.in_ok-ok.field-0.now c.parse.result small small (same ∙ e) c.parse.ensures.value.0 in
    let differ = apart c.as_bytes.result.now c.args.word.now c.eq.result c.eq.ensures c.if-eq.false in
    let number : c.in_ok-number.number ≡ n = same_read c.parse.result c.in_ok-number.number n c.in_ok-number.ensures.value read in
    differ (c.as_bytes.ensures.value ∙ (c.format.ensures.text ∙ (ap decimal number ∙ sym e)))
