use Rattle.std.proofs.Common.{◌≡◌, ℕ, ◌+◌, ◌^◌, ◌<◌, List, ◌++◌, Some, length, get_or, drop, replicate, ap, sym, ◌∙◌, subst, arith}
use Rattle.std.proofs.lemmas.List.Elements.{All-from_get_or}
use Rattle.erm_record.proofs.StoredRows.{stored_length-le, stored_whole}
use Rattle.erm_record.specs.Stored.{stored_length}
use Rattle.erm_block.specs.Block.{Entry}
use Rattle.erm_block.specs.Spelling.{first_word, row_words}
use Rattle.erm_block.proofs.Found.{IfSome-then_some, Some-then_some}
use Rattle.erm_block.proofs.Reading.{Some≡Some, None≢Some, read_row}
use Rattle.erm_ckpt.proofs.ReadEntry.{entry_found, fits_few, head_of}
use Rattle.erm_ckpt.proofs.entry.read_entry.Goals as goal

pub returns-in_err-oid-clause-given : goal.returns-in_err-oid-clause-given
returns-in_err-oid-clause-given c = λ entry size begins.
    let split = sym c.in_ok-head.ensures.cases.0 ∙ begins.words_are in
    let head : c.in_ok-head.head.now ≡ first_word c.args.form entry = ap (λ (ws : List ℕ). get_or ws 0 0) split in
    None≢Some c.head_parts.result (entry.0, length (row_words c.args.form entry.1)) c.in_err-oid.was
    (c.head_parts.ensures.given entry.0 (length (row_words c.args.form entry.1)) (head_of c.args.form entry c.in_ok-head.head.now begins.is head))

pub returns-clause-found : goal.returns-clause-found
returns-clause-found c =
    let behind = c.in_ok-head.behind.now in
    let copied = c.copy_from_slice.new.self in
    let count = c.in_ok-oid.length in
    let room = c.in_ok-get.ensures.lookup.0.1 in
    let are = All-from_get_or (λ w. w < 2 ^ 64) c.args.words.now 0 (λ i _. omega (arith, c.type_inv.words i)) in
    IfSome-then_some c.has_words.result _ c.then_some.result _ c.then_some.ensures (λ passed.
    let has = c.has_words.ensures.0 passed in
    entry_found behind copied count room (fits_few c.args.form count c.in_ok-oid.ensures.found.fits) (c.copy_from_slice.ensures.after ∙ c.in_ok-get.ensures.lookup.0.2)
    c.args.form c.args.words.now c.in_ok-head.head.now c.in_ok-oid.oid are c.in_ok-head.ensures.cases.0 c.in_ok-oid.ensures.found has.0 has.1)

pub returns-clause-given : goal.returns-clause-given
returns-clause-given c = λ entry size begins.
    let form = c.args.form in
    let count : ℕ = length (row_words form entry.1) in
    let split = sym c.in_ok-head.ensures.cases.0 ∙ begins.words_are in
    let head : c.in_ok-head.head.now ≡ first_word form entry = ap (λ (ws : List ℕ). get_or ws 0 0) split in
    let behind : c.in_ok-head.behind.now ≡ row_words form entry.1 ++ begins.rest = ap (λ (ws : List ℕ). drop 1 ws) split in
    let parts = Some≡Some c.head_parts.result (c.in_ok-oid.oid, c.in_ok-oid.length) (entry.0, count) c.in_ok-oid.was
    (c.head_parts.ensures.given entry.0 count (head_of form entry c.in_ok-head.head.now begins.is head)) in
    let oid : c.in_ok-oid.oid ≡ entry.0 = ap (λ p. p.0) parts in
    let length_is : c.in_ok-oid.length ≡ count = ap (λ p. p.1) parts in
    let read = read_row stored_length-le stored_whole form entry c.in_ok-head.behind.now begins.rest c.copy_from_slice.new.self c.in_ok-oid.oid c.in_ok-oid.length
    begins.is.is behind oid length_is (c.copy_from_slice.ensures.after ∙ c.in_ok-get.ensures.lookup.0.2) in
    let row : c.copy_from_slice.new.self ++ drop c.in_ok-oid.length (replicate 16 0) ≡ entry.1 = ap (λ (e : Entry). e.1) read in
    let some = subst (λ (r : List ℕ). 0 < stored_length r) (sym row) begins.is.some in
    let words = length_is ∙ ap (λ (r : List ℕ). length (row_words form r)) (sym row) in
    Some-then_some c.has_words.result _ c.then_some.result c.then_some.ensures (c.has_words.ensures.1 (some, words))
    ∙ ap (λ (e : Entry). Some (e, 1 + c.in_ok-oid.length)) read
    ∙ ap (λ (n : ℕ). Some (entry, 1 + n)) length_is
    ∙ ap (λ (n : ℕ). Some (entry, n)) (let e : 1 + count ≡ size = omega (arith, begins.size_is) in e)
