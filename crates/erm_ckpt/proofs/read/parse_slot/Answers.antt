use Rattle.std.proofs.Common.{ℕ, Some, length, ◌+◌, List, get_or, drop, refl, sym, ap, ◌∙◌, subst, arith}
use Rattle.std.proofs.Common.{eq-eqb}
use Rattle.std.proofs.lemmas.Bool.{eqb-true}
use Rattle.std.specs.List.{flat_map}
use Rattle.erm_bytes.specs.Digest.{digest_of}
use Rattle.std.proofs.lemmas.List.{take_rest}
use Rattle.erm_block.specs.Spelling.{entry_words}
use Rattle.erm_block.proofs.Found.{IfSome-then_some, Some-then_some}
use Rattle.erm_block.proofs.Reading.{Some≡Some, None≢Some}
use Rattle.erm_ckpt.specs.Reading.{BeginsWithRows, HasRows}
use Rattle.erm_ckpt.proofs.ReadSlot.{five, has_digest, has_rows, head_of, slot_found, slot_is}
use Rattle.erm_ckpt.proofs.read.parse_slot.Goals as goal

pub returns-in_err-size-clause-given : goal.returns-in_err-size-clause-given
returns-in_err-size-clause-given c = λ checkpoint stands.
    let words = c.args.words.now in
    let head = head_of words checkpoint stands in
    let size : ℕ = length (flat_map (entry_words checkpoint.form) checkpoint.entries) in
    let form = Some≡Some c.form_with.result c.in_ok-form.form checkpoint.form c.in_ok-form.was (c.form_with.ensures.given checkpoint.form head.format) in
    let has = subst (λ (ws : List ℕ). HasRows c.in_ok-form.form ws (get_or words 4 0) size) (sym (take_rest words 5)) (has_rows words checkpoint c.in_ok-form.form (get_or words 4 0) stands form head.count) in
    None≢Some c.read_rows.result size c.in_err-size.was (c.read_rows.ensures.given size has)

pub returns-in_err-digest-clause-given : goal.returns-in_err-digest-clause-given
returns-in_err-digest-clause-given c = λ checkpoint stands.
    let words = c.args.words.now in
    let head = head_of words checkpoint stands in
    let size : ℕ = length (flat_map (entry_words checkpoint.form) checkpoint.entries) in
    let form = Some≡Some c.form_with.result c.in_ok-form.form checkpoint.form c.in_ok-form.was (c.form_with.ensures.given checkpoint.form head.format) in
    let has = subst (λ (ws : List ℕ). HasRows c.in_ok-form.form ws (get_or words 4 0) size) (sym (take_rest words 5)) (has_rows words checkpoint c.in_ok-form.form (get_or words 4 0) stands form head.count) in
    let sized = Some≡Some c.read_rows.result c.in_ok-size.field-0 size c.in_ok-size.was (c.read_rows.ensures.given size has) in
    let last = has_digest words checkpoint (5 + c.in_ok-size.field-0) stands (ap (λ (n : ℕ). 5 + n) sized) in
    absurd (omega (arith, last.long, c.in_err-digest.ensures.lookup.3))

pub returns-clause-found : goal.returns-clause-found
returns-clause-found c =
    let words = c.args.words.now in
    let size = c.in_ok-size.field-0 in
    let last = c.in_ok-digest.ensures.lookup in
    let begins = subst (λ (ws : List ℕ). BeginsWithRows c.in_ok-form.form ws c.read_rows.new.rows (get_or words 4 0) size) (take_rest words 5) c.in_ok-size.ensures.found in
    IfSome-then_some _ _ c.then_some.result _ c.then_some.ensures (λ passed.
    let same = eqb-true c.digest_word.result c.in_ok-digest.field-0.now passed in
    slot_found words c.read_rows.new.rows c.in_ok-form.form _ (get_or words 0 0) (get_or words 1 0) (get_or words 2 0) (get_or words 3 0) (get_or words 4 0) size (drop 5 words)
    (five words c.if-words-lt-SLOT_HEAD.false) c.in_ok-form.ensures.found refl refl refl (c.if-not-is_slot.ensures.0 refl) begins
    last.3.0 (sym c.digest_word.ensures ∙ same ∙ last.4 (omega arith) 0))

pub returns-clause-given : goal.returns-clause-given
returns-clause-given c = λ checkpoint stands.
    let words = c.args.words.now in
    let head = head_of words checkpoint stands in
    let size : ℕ = length (flat_map (entry_words checkpoint.form) checkpoint.entries) in
    let form = Some≡Some c.form_with.result c.in_ok-form.form checkpoint.form c.in_ok-form.was (c.form_with.ensures.given checkpoint.form head.format) in
    let has = subst (λ (ws : List ℕ). HasRows c.in_ok-form.form ws (get_or words 4 0) size) (sym (take_rest words 5)) (has_rows words checkpoint c.in_ok-form.form (get_or words 4 0) stands form head.count) in
    let sized = Some≡Some c.read_rows.result c.in_ok-size.field-0 size c.in_ok-size.was (c.read_rows.ensures.given size has) in
    let last = has_digest words checkpoint (5 + c.in_ok-size.field-0) stands (ap (λ (n : ℕ). 5 + n) sized) in
    Some-then_some _ _ c.then_some.result c.then_some.ensures
    (eq-eqb c.digest_word.result c.in_ok-digest.field-0.now (c.digest_word.ensures ∙ ap digest_of last.body ∙ sym last.digest ∙ sym (c.in_ok-digest.ensures.lookup.4 (omega arith) 0)))
    ∙ ap (λ s. Some s) (slot_is words checkpoint stands)
