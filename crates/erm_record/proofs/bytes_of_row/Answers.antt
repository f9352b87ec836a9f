use Rattle.std.proofs.Common.{◌≤◌, length, ap, ◌∙◌, arith}
use Rattle.std.proofs.lemmas.List.{take_all}
use borrow.Rule.Slice.PartMut.{mid_of}
use Rattle.erm_bytes.specs.Bytes.{bytes_of, words_of}
use Rattle.erm_record.specs.Record.{padded}
use Rattle.erm_record.proofs.Rows.{length-padded, AreBytes-padded}
use Rattle.erm_record.proofs.bytes_of_row.Goals as goal

pub returns : goal.returns
returns c = λ bytes is e.
    let words = words_of 14 (padded bytes) in
    let whole : length words ≤ 14 = omega (arith, c.bytes_again.ensures.count 14 (padded bytes)) in
    let again = c.bytes_again.ensures.same 14 (padded bytes) (AreBytes-padded bytes is) (length-padded bytes is) in
    c.write_words.ensures ∙ ap (λ row. bytes_of (mid_of 2 14 row)) e ∙ ap bytes_of (take_all 14 words whole) ∙ again
