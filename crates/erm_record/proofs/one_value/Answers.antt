use Rattle.std.proofs.Common.{◌≡◌, sym, ap, ◌∙◌}
use Rattle.erm_bytes.specs.Bytes.{bytes_of, words_of}
use Rattle.erm_record.specs.Record.{padded}
use Rattle.erm_record.proofs.Rows.{length-padded, AreBytes-padded, same_value}
use Rattle.erm_record.proofs.one_value.Goals as goal

pub returns : goal.returns
returns c = λ a b is_a is_b e.
    let again_a = c.bytes_again.ensures.same 14 (padded a) (AreBytes-padded a is_a) (length-padded a is_a) in
    let again_b = c.bytes_again.ensures.same 14 (padded b) (AreBytes-padded b is_b) (length-padded b is_b) in
    let words : words_of 14 (padded a) ≡ words_of 14 (padded b) = cc in
    same_value a b (sym again_a ∙ ap bytes_of words ∙ again_b) (cc)
