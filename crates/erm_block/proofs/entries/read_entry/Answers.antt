use Rattle.std.proofs.Common.{◌≡◌, ℕ, ◌+◌, List, ◌∷◌, ◌++◌, Some, length, get_or, drop, ap, sym, ◌∙◌, arith}
use Rattle.erm_block.specs.Block.{Entry}
use Rattle.erm_block.specs.Spelling.{first_word, row_words}
use Rattle.erm_block.proofs.Reading.{Some≡Some, read_row}
use Rattle.erm_block.proofs.entries.read_entry.Goals as goal

pub returns-clause-given : goal.returns-clause-given
returns-clause-given c = λ entry rest is words.
    let form = c.args.form in
    let tell = c.stored_words_tell_the_row.ensures in
    let split = sym c.in_ok-head.ensures.cases.0 ∙ words in
    let head : c.in_ok-head.head.now ≡ first_word form entry = ap (λ (ws : List ℕ). get_or ws 0 0) split in
    let behind : c.in_ok-head.behind.now ≡ row_words form entry.1 ++ rest = ap (λ (ws : List ℕ). drop 1 ws) split in
    let parts = Some≡Some c.head_parts.result (c.in_ok-oid.oid, c.in_ok-oid.length) (entry.0, length (row_words form entry.1)) c.in_ok-oid.was (c.head_parts.ensures.given entry is head) in
    let oid : c.in_ok-oid.oid ≡ entry.0 = ap (λ p. p.0) parts in
    let size : c.in_ok-oid.length ≡ length (row_words form entry.1) = ap (λ p. p.1) parts in
    let read = read_row tell.short tell.whole form entry c.in_ok-head.behind.now rest c.copy_from_slice.new.self c.in_ok-oid.oid c.in_ok-oid.length is behind oid size
    (c.copy_from_slice.ensures.after ∙ c.in_ok-get.ensures.lookup.0.2) in
    let many : 1 + c.in_ok-oid.length ≡ 1 + length (row_words form entry.1) = ap (λ (n : ℕ). 1 + n) size in
    let more : 1 + length (row_words form entry.1) ≡ length (first_word form entry ∷ row_words form entry.1) = omega arith in
    ap (λ (e : Entry). Some (e, 1 + c.in_ok-oid.length)) read ∙ ap (λ (n : ℕ). Some (entry, n)) (many ∙ more)
