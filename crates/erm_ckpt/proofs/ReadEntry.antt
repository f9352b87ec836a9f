-- One row of a slot, read from words.
use Rattle.std.proofs.Common.{◌≡◌, ℕ, ◌+◌, ◌-◌, ◌*◌, ◌^◌, ◌<◌, ◌≤◌, List, ◌∷◌, ◌++◌, length, take, drop, replicate, sym, ap, ◌∙◌, subst, arith, length-append}
use Rattle.std.proofs.lemmas.List.{append-nil, drop-replicate, length-replicate, length-take-le, take_at, take-append-drop}
use Rattle.std.proofs.lemmas.List.Elements.{All-append, All-replicate, All-tail, All-take}
use Rattle.erm_bytes.specs.Bytes.{AreWords}
use Rattle.erm_record.specs.Stored.{stored_length}
use Rattle.erm_record.proofs.StoredRows.{stored_length-le}
use Rattle.erm_block.specs.declared.block.Form.{Form}
use Rattle.erm_block.specs.declared.block.Form.TheVariants.{Whole, Stored}
use Rattle.erm_block.specs.Block.{Entry}
use Rattle.erm_block.specs.Spelling.{first_word, row_words}
use Rattle.erm_block.proofs.EntryWords.{length-row_words}
use Rattle.erm_ckpt.specs.Checkpoint.{IsSaved}
use Rattle.erm_ckpt.specs.Reading.{BeginsWithEntry, FitsForm, IsHead}

-- a row has its head
pub head_of : (form : Form) (entry : Entry) (word : ℕ) → IsSaved entry → word ≡ first_word form entry → IsHead form word entry.0 (length (row_words form entry.1))
head_of Whole entry word is e = record { object = is.is.oid; fits = is.is.row; word_is = e }
head_of Stored entry word is e =
    let count = length-row_words stored_length-le entry.1 in
    let short = stored_length-le entry.1 in
    let row = is.is.row in
    record {
      object = is.is.oid;
      fits = omega (arith, count, short, row);
      word_is = e ∙ ap (λ (n : ℕ). entry.0 + 2 ^ 32 * n) (sym count);
    }

-- no row has more words than a row has
pub fits_few : (form : Form) (count : ℕ) → FitsForm form count → count ≤ 16
fits_few Whole count fits = omega (arith, fits)
fits_few Stored count fits = fits

module _ (behind copied : List ℕ) (count : ℕ) (room : count ≤ length behind) (few : count ≤ 16) (copied_is : copied ≡ take (count - 0) behind) where
  abbrev row : List ℕ
  row = copied ++ drop count (replicate 16 0)

  taken : copied ≡ take count behind
  taken = copied_is ∙ (let e : count - 0 ≡ count = omega arith in ap (λ (n : ℕ). take n behind) e)

  row_is : row ≡ take count behind ++ replicate (16 - count) 0
  row_is = ap (λ (ws : List ℕ). ws ++ drop count (replicate 16 0)) taken ∙ ap (λ (ws : List ℕ). take count behind ++ ws) (drop-replicate count 16 0)

  row_long : length row ≡ 16
  row_long = ap length row_is ∙ omega (arith, length-append (take count behind) (replicate (16 - count) 0), length-take-le count behind room, length-replicate {A = ℕ} (16 - count) 0, few)

  -- the words of the row are those that were read
  row_words_are : (form : Form) → FitsForm form count → count ≡ length (row_words form row) → row_words form row ≡ take count behind
  row_words_are Whole fits same =
      let none : 16 - count ≡ 0 = omega (arith, fits) in
      row_is ∙ ap (λ (n : ℕ). take count behind ++ replicate n 0) none ∙ append-nil (take count behind)
  row_words_are Stored fits same =
      let n : stored_length row ≡ count = sym (same ∙ length-row_words stored_length-le row) in
      ap (λ (k : ℕ). take k row) n ∙ ap (take count) row_is ∙ take_at (take count behind) (replicate (16 - count) 0) count (length-take-le count behind room)

  -- the head says what was read
  head_is : (form : Form) (head oid : ℕ) → IsHead form head oid count → count ≡ length (row_words form row) → head ≡ first_word form (oid, row)
  head_is Whole head oid is same = is.word_is
  head_is Stored head oid is same =
      let n : count ≡ stored_length row = same ∙ length-row_words stored_length-le row in
      is.word_is ∙ ap (λ (k : ℕ). oid + 2 ^ 32 * k) n

  pub entry_found : (form : Form) (words : List ℕ) (head oid : ℕ) → AreWords words → words ≡ head ∷ behind → IsHead form head oid count
      → 0 < stored_length row → count ≡ length (row_words form row) → BeginsWithEntry form words (oid, row) (1 + count)
  entry_found form words head oid are split is some same =
      let Q : List ℕ → Type 0 = AreWords in
      let those : AreWords behind = All-tail (λ w. w < 2 ^ 64) head behind (subst Q split are) in
      let ws = row_words_are form is.fits same in
      record {
        is = record {
          is = record { oid = is.object; row = row_long };
          words = subst Q (sym row_is) (All-append (λ w. w < 2 ^ 64) (take count behind) (replicate (16 - count) 0)
              (All-take (λ w. w < 2 ^ 64) count behind those) (All-replicate (λ w. w < 2 ^ 64) (16 - count) 0 (omega arith)));
          some = some;
        };
        rest = drop count behind;
        words_are = split ∙ ap (λ (h : ℕ). h ∷ behind) (head_is form head oid is same)
            ∙ ap (λ (bs : List ℕ). first_word form (oid, row) ∷ bs) (sym (take-append-drop count behind))
            ∙ ap (λ (bs : List ℕ). first_word form (oid, row) ∷ (bs ++ drop count behind)) (sym ws);
        size_is = let e : length (first_word form (oid, row) ∷ row_words form row) ≡ 1 + length (row_words form row) = omega arith in
            ap (λ (n : ℕ). 1 + n) same ∙ sym e;
      }
