use Rattle.std.proofs.Common.{◌≡◌, ℕ, ◌*◌, ◌/◌, take, length, refl, ap, ◌∙◌, arith}
use Rattle.std.proofs.lemmas.List.{length-take}
use Rattle.erm_bytes.specs.Bytes.{words_of}
use Rattle.erm_log_disk.proofs.Readings.{piece_read}
use Rattle.erm_log_disk.proofs.read.read_piece.Goals as goal

pub returns-clause-words : goal.returns-clause-words
returns-clause-words g c =
    let size : length (take (8 * length c.args.words.now) c.args.buffer.now) ≡ 8 * length c.args.words.now = omega (arith, length-take (8 * length c.args.words.now) c.args.buffer.now) in
    let count : ℕ = c.in_ok-count.field-0 / 8 in
    let room : length (take count c.args.words.now) ≡ count = omega (arith, c.in_ok-count.ensures.within, length-take count c.args.words.now, length-take (8 * length c.args.words.now) c.args.buffer.now) in
    piece_read _ _ _ c.in_ok-count.field-0 c.place-file.result (take (8 * length c.args.words.now) c.args.buffer.now) c.read.new.buf c.read_words.new.out _ _
    c.place-file.ensures (omega arith) size c.in_ok-count.ensures.bytes
    (c.read_words.ensures.words ∙ ap (λ (n : ℕ). words_of n (take (8 * count) c.read.new.buf)) room) refl
