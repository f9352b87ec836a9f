-- The sizes of blocks with so many rows.
use Rattle.std.proofs.Common.{◌≡◌, ℕ, zero, suc, ◌+◌, ◌-◌, ◌*◌, ◌≤◌, List, [], ◌∷◌, ◌++◌, length, map, replicate, refl, sym, subst, arith, length-append, Bool, IsTrue, ◌↔◌}
use Rattle.std.specs.Prelude.{min}
use Rattle.std.specs.List.{All}
use Rattle.std.proofs.lemmas.List.{length-replicate}
use Rattle.std.proofs.lemmas.List.Elements.{All-head, All-tail, All-nil, All-cons}
use Rattle.std.proofs.lemmas.List.Sums.{sum_by-cons}
use Rattle.erm_record.specs.Stored.{stored_length, stored_words}
use Rattle.erm_block.specs.declared.block.Form.{Form}
use Rattle.erm_block.specs.declared.block.Form.TheVariants.{Whole, Stored}
use Rattle.erm_block.specs.Block.{Entry, IsEntry, IsSizeFor, size_with}

-- what comparison tells such a size
abbrev pub IsInBounds : Form → ℕ → ℕ → Type 0
IsInBounds Whole n size = size ≡ 5 + 17 * n
IsInBounds Stored n size = (5 + n ≤ size) × (size ≤ 5 + 17 * n)

-- ---- no other sizes

-- each row takes a word at least
stored_many : (entries : List Entry) → 5 + length entries ≤ size_with Stored entries
stored_many [] = omega arith
stored_many (e ∷ es) = omega (arith, stored_many es, sum_by-cons stored_words e.1 (map (λ (x : Entry). x.1) es))

module _ (short : (row : List ℕ) → stored_length row ≤ length row) where
  -- stored rows take no more words than whole ones
  pub stored_few : (entries : List Entry) → All IsEntry entries → size_with Stored entries ≤ 5 + 17 * length entries
  stored_few [] are = omega arith
  stored_few (e ∷ es) are =
      let row = (All-head IsEntry e es are).row in
      let rest = stored_few es (All-tail IsEntry e es are) in
      omega (arith, row, rest, short e.1, sum_by-cons stored_words e.1 (map (λ (x : Entry). x.1) es))

  pub IsInBounds-from_size : (form : Form) (n size : ℕ) → IsSizeFor form n size → IsInBounds form n size
  IsInBounds-from_size Whole n size is = omega (arith, is.count, is.size_is)
  IsInBounds-from_size Stored n size is =
      let low = stored_many is.entries in
      let high = stored_few is.entries is.each in (
        omega (arith, low, is.count, is.size_is),
        omega (arith, high, is.count, is.size_is),
      )

  -- in either form
  pub size-between : (form : Form) (n size : ℕ) → IsSizeFor form n size → (5 ≤ size) × (size ≤ 5 + 17 * n)
  size-between Whole n size is = let at = IsInBounds-from_size Whole n size is in (omega (arith, at), omega (arith, at))
  size-between Stored n size is = let at = IsInBounds-from_size Stored n size is in (omega (arith, at.0), at.1)

-- ---- each of these sizes

-- a row of sixteen words, of which so many are stored
abbrev row_with : ℕ → List ℕ
row_with k = replicate k 1 ++ replicate (16 - k) 0

stored_length-zeros : (m : ℕ) → stored_length (replicate m 0) ≡ 0
stored_length-zeros zero = refl
stored_length-zeros (suc m) = let rest = stored_length-zeros m in grind (arith, rest)

stored_length-ones : (k m : ℕ) → stored_length (replicate k 1 ++ replicate m 0) ≡ k
stored_length-ones zero m = stored_length-zeros m
stored_length-ones (suc k) m = let rest = stored_length-ones k m in grind (arith, rest)

length-row_with : (k : ℕ) → k ≤ 16 → length (row_with k) ≡ 16
length-row_with k few = omega (arith, length-append {A = ℕ} (replicate k 1) (replicate (16 - k) 0), length-replicate {A = ℕ} k 1, length-replicate {A = ℕ} (16 - k) 0)

-- so many entries, with so many words besides one for each
abbrev entries_with : ℕ → ℕ → List Entry
entries_with zero more = []
entries_with (suc n) more = (0, row_with (min more 16)) ∷ entries_with n (more - 16)

are_entries_with : (n more : ℕ) → All IsEntry (entries_with n more)
are_entries_with zero more = All-nil IsEntry
are_entries_with (suc n) more =
    let first : IsEntry (0, row_with (min more 16)) = record { oid = omega arith; row = length-row_with (min more 16) (omega arith) } in
    All-cons IsEntry (0, row_with (min more 16)) (entries_with n (more - 16)) first (are_entries_with n (more - 16))

length-entries_with : (n more : ℕ) → length (entries_with n more) ≡ n
length-entries_with zero more = refl
length-entries_with (suc n) more = let rest = length-entries_with n (more - 16) in omega (arith, rest)

size_with-entries_with : (n more : ℕ) → more ≤ 16 * n → size_with Stored (entries_with n more) ≡ 5 + n + more
size_with-entries_with zero more few = omega (arith, few)
size_with-entries_with (suc n) more few =
    let row : List ℕ = row_with (min more 16) in
    let one : stored_length row ≡ min more 16 = stored_length-ones (min more 16) (16 - min more 16) in
    let rest = size_with-entries_with n (more - 16) (omega (arith, few)) in
    omega (arith, one, rest, sum_by-cons stored_words row (map (λ (x : Entry). x.1) (entries_with n (more - 16))))

pub IsSizeFor-from_bounds : (form : Form) (n size : ℕ) → IsInBounds form n size → IsSizeFor form n size
IsSizeFor-from_bounds Whole n size at = record {
  entries = entries_with n 0;
  each = are_entries_with n 0;
  count = length-entries_with n 0;
  size_is = let count = length-entries_with n 0 in omega (arith, at, count);
}
IsSizeFor-from_bounds Stored n size at = record {
  entries = entries_with n (size - 5 - n);
  each = are_entries_with n (size - 5 - n);
  count = length-entries_with n (size - 5 - n);
  size_is = let is = size_with-entries_with n (size - 5 - n) (omega (arith, at.0, at.1)) in omega (arith, at.0, at.1, is);
}

-- a test of the bounds tells the sizes
pub IsSizeFor-from_test : ((row : List ℕ) → stored_length row ≤ length row) → (form is : Form) (n size : ℕ) (test : Bool) → form ≡ is
    → (IsTrue test ↔ IsInBounds is n size) → IsTrue test ↔ IsSizeFor form n size
IsSizeFor-from_test short form is n size test same told =
    let sized : Form → Type 0 = λ f. IsSizeFor f n size in (
      λ yes. subst sized (sym same) (IsSizeFor-from_bounds is n size (told.0 yes)),
      λ for. told.1 (IsInBounds-from_size short is n size (subst sized same for)),
    )
