-- The rows of an array that a checkpoint has, one row of the array more at a time.
use Rattle.std.proofs.Common.{◌≡◌, ◌≢◌, ℕ, zero, suc, ◌+◌, ◌-◌, ◌<◌, ◌≤◌, Bool, true, false, cond, List, [], ◌∷◌, ◌++◌, length, get_or, take, replicate, refl, sym, ap, ◌∙◌, arith, nat_lt}
use Rattle.std.specs.Prelude.{filter}
use Rattle.std.specs.List.{enumerate_from, All, AllPairs}
use Rattle.std.proofs.lemmas.List.{append-nil, length-take-le, take-append-drop, take_more}
use Rattle.std.specs.List.{flat_map}
use Rattle.std.proofs.lemmas.List.Concat.{flat_map-append}
use Rattle.std.proofs.Common.{◌*◌, drop, length-append}
use Rattle.erm_block.specs.declared.block.Form.TheVariants.{Stored}
use Rattle.erm_block.specs.Spelling.{entry_words}
use Rattle.std.proofs.lemmas.List.Elements.{All-cons, All-nil, filter-append}
use Rattle.std.proofs.lemmas.Bool.Decides.{nat_tests}
use Rattle.std.proofs.lemmas.List.Kept.{AllPairs-cons}
use Rattle.std.proofs.Math.Dec.{eqb}
use Rattle.erm_bytes.specs.Bytes.{AreWords}
use Rattle.erm_model.specs.declared.limits.TheConstants.{OID_LIMIT}
use Rattle.erm_model.specs.Rows.{Rows, rows_of, set_row}
use Rattle.erm_model.specs.RowTransaction.{SameRows}
use Rattle.erm_record.specs.Stored.{stored_length}
use Rattle.erm_record.proofs.StoredRows.{stored_length-le, stored_whole}
use Rattle.erm_block.specs.Block.{Entry}
use Rattle.erm_block.specs.LogList.{set_rows}
use Rattle.erm_ckpt.specs.declared.slot.Slot.{Slot}
use Rattle.erm_ckpt.specs.Checkpoint.{IsCheckpoint, IsSaved, IsSlot, checkpoint_of, rows_of_checkpoint, saved, slot_body, slot_words, zero_rows}
use Rattle.erm_ckpt.specs.declared.slot.TheConstants.{SLOT_WORDS}
use Rattle.erm_bytes.specs.Digest.{digest_of}
use Rattle.erm_block.proofs.EntryWords.{length-row_words}

-- the test of rows that a checkpoint has
abbrev is_some : Entry → Bool
is_some entry = nat_lt 0 (stored_length entry.1)

-- numbers go on in the second of two parts
enumerate_from-append : (n : ℕ) (xs ys : List (List ℕ)) → enumerate_from n (xs ++ ys) ≡ enumerate_from n xs ++ enumerate_from (n + length xs) ys
enumerate_from-append n [] ys = let e : n ≡ n + 0 = omega arith in ap (λ (k : ℕ). enumerate_from k ys) e
enumerate_from-append n (x ∷ xs) ys =
    let e : n + 1 + length xs ≡ n + length (x ∷ xs) = omega arith in
    ap (λ (es : List Entry). (n, x) ∷ es) (enumerate_from-append (n + 1) xs ys ∙ ap (λ (k : ℕ). enumerate_from (n + 1) xs ++ enumerate_from k ys) e)

-- the next row, if it isn't zero
abbrev one_of : ℕ → List ℕ → List Entry
one_of i row = filter is_some ((i, row) ∷ [])

saved-more : (rows : List (List ℕ)) (i : ℕ) → i < length rows → saved (take (i + 1) rows) ≡ saved (take i rows) ++ one_of i (get_or rows i [])
saved-more rows i below =
    let row : List ℕ = get_or rows i [] in
    let at : 0 + length (take i rows) ≡ i = omega (arith, length-take-le i rows (omega (arith, below))) in
    ap saved (take_more rows i [] below)
    ∙ ap (filter is_some) (enumerate_from-append 0 (take i rows) (row ∷ []))
    ∙ filter-append is_some (enumerate_from 0 (take i rows)) (enumerate_from (0 + length (take i rows)) (row ∷ []))
    ∙ ap (λ (k : ℕ). saved (take i rows) ++ filter is_some (enumerate_from k (row ∷ []))) at

-- a row of zeros is passed over
pub saved-zero : (rows : List (List ℕ)) (i : ℕ) → i < length rows → stored_length (get_or rows i []) ≡ 0 → saved (take (i + 1) rows) ≡ saved (take i rows)
saved-zero rows i below none =
    let test : is_some (i, get_or rows i []) ≡ false = grind (arith, none) in
    saved-more rows i below ∙ ap (λ (b : Bool). saved (take i rows) ++ cond b ((i, get_or rows i []) ∷ []) []) test ∙ append-nil (saved (take i rows))

-- any other is taken
pub saved-some : (rows : List (List ℕ)) (i : ℕ) → i < length rows → 0 < stored_length (get_or rows i []) → saved (take (i + 1) rows) ≡ saved (take i rows) ++ (i, get_or rows i []) ∷ []
saved-some rows i below some =
    let test : is_some (i, get_or rows i []) ≡ true = grind (arith, some) in
    saved-more rows i below ∙ ap (λ (b : Bool). saved (take i rows) ++ cond b ((i, get_or rows i []) ∷ []) []) test

-- ---- how many words

-- the rows of a front are the first ones
saved-parts : (rows : List (List ℕ)) (i : ℕ) → i ≤ length rows → saved rows ≡ saved (take i rows) ++ filter is_some (enumerate_from i (drop i rows))
saved-parts rows i within =
    let at : 0 + length (take i rows) ≡ i = omega (arith, length-take-le i rows within) in
    ap saved (sym (take-append-drop i rows))
    ∙ ap (filter is_some) (enumerate_from-append 0 (take i rows) (drop i rows))
    ∙ filter-append is_some (enumerate_from 0 (take i rows)) (enumerate_from (0 + length (take i rows)) (drop i rows))
    ∙ ap (λ (k : ℕ). saved (take i rows) ++ filter is_some (enumerate_from k (drop i rows))) at

-- and have no more words than all
pub words_of_front : (rows : List (List ℕ)) (i : ℕ) → i ≤ length rows → length (flat_map (entry_words Stored) (saved (take i rows))) ≤ length (flat_map (entry_words Stored) (saved rows))
words_of_front rows i within =
    let rest : List Entry = filter is_some (enumerate_from i (drop i rows)) in
    let e : flat_map (entry_words Stored) (saved rows) ≡ flat_map (entry_words Stored) (saved (take i rows)) ++ flat_map (entry_words Stored) rest =
    ap (flat_map (entry_words Stored)) (saved-parts rows i within) ∙ flat_map-append (entry_words Stored) (saved (take i rows)) rest in
    omega (arith, ap (λ (ws : List ℕ). length ws) e, length-append (flat_map (entry_words Stored) (saved (take i rows))) (flat_map (entry_words Stored) rest))

-- the words of the next row, if it isn't zero, among them
pub words_of_next : (rows : List (List ℕ)) (i : ℕ) → i < length rows → 0 < stored_length (get_or rows i [])
    → length (flat_map (entry_words Stored) (saved (take i rows))) + length (entry_words Stored (i, get_or rows i [])) ≤ length (flat_map (entry_words Stored) (saved rows))
words_of_next rows i below some =
    let S : List Entry = saved (take i rows) in
    let one : List ℕ = entry_words Stored (i, get_or rows i []) in
    let more : flat_map (entry_words Stored) (saved (take (i + 1) rows)) ≡ flat_map (entry_words Stored) S ++ (one ++ []) =
    ap (flat_map (entry_words Stored)) (saved-some rows i below some) ∙ flat_map-append (entry_words Stored) S ((i, get_or rows i []) ∷ []) in
    omega (arith, words_of_front rows (i + 1) (omega (arith, below)), ap (λ (ws : List ℕ). length ws) more, length-append (flat_map (entry_words Stored) S) (one ++ []), ap (λ (ws : List ℕ). length ws) (append-nil one))

-- ---- all rows of an array, from a number on

-- the rows that aren't zero
abbrev from : ℕ → List (List ℕ) → List Entry
from n rows = filter is_some (enumerate_from n rows)

-- a row that passes the test isn't zero
some_of : (n : ℕ) → nat_lt 0 n ≡ true → 0 < n
some_of n test = grind (arith, test)

none_of : (n : ℕ) → nat_lt 0 n ≡ false → n ≡ 0
none_of n test = grind (arith, test)

-- whether a row is taken or not
either : (P : List Entry → Type 0) (b : Bool) (entry : Entry) (entries : List Entry) → (b ≡ true → P (entry ∷ entries)) → (b ≡ false → P entries)
    → P (cond b (entry ∷ entries) entries)
either P true entry entries taken passed = taken refl
either P false entry entries taken passed = passed refl

-- their numbers are from n on
all_above : (n : ℕ) (rows : List (List ℕ)) → All (λ entry. n ≤ entry.0) (from n rows)
all_above n [] = All-nil (λ (entry : Entry). n ≤ entry.0)
all_above n (row ∷ rows) =
    let rest : List Entry = from (n + 1) rows in
    let behind : All (λ entry. n ≤ entry.0) rest = λ k d low. let up = all_above (n + 1) rows k d low in omega (arith, up) in
    either (All (λ (entry : Entry). n ≤ entry.0)) (is_some (n, row)) (n, row) rest (λ _. All-cons (λ (entry : Entry). n ≤ entry.0) (n, row) rest (omega arith) behind) (λ _. behind)

-- and ascend
all_ascend : (n : ℕ) (rows : List (List ℕ)) → AllPairs (λ a b. a.0 < b.0) (from n rows)
all_ascend n [] = λ i j d before below. absurd (omega (arith, below))
all_ascend n (row ∷ rows) =
    let rest : List Entry = from (n + 1) rows in
    let behind = all_ascend (n + 1) rows in
    let above : All (λ entry. n < entry.0) rest = λ k d low. let up = all_above (n + 1) rows k d low in omega (arith, up) in
    either (AllPairs (λ (a b : Entry). a.0 < b.0)) (is_some (n, row)) (n, row) rest (λ _. AllPairs-cons (λ (a b : Entry). a.0 < b.0) (n, row) rest above behind) (λ _. behind)

-- each is a row of the array that isn't zero, at its number
record IsOne (n : ℕ) (rows : List (List ℕ)) (entry : Entry) : Type 0 where
  pub low : n ≤ entry.0
  pub high : entry.0 < n + length rows
  pub row : entry.1 ≡ get_or rows (entry.0 - n) []
  pub some : 0 < stored_length entry.1

one_behind : (n : ℕ) (row : List ℕ) (rows : List (List ℕ)) (entry : Entry) → IsOne (n + 1) rows entry → IsOne n (row ∷ rows) entry
one_behind n row rows entry one =
    let up = one.low in
    let high = one.high in
    let e : entry.0 - n ≡ suc (entry.0 - (n + 1)) = omega (arith, up) in
    record {
      low = omega (arith, up);
      high = omega (arith, high);
      row = one.row ∙ ap (λ (i : ℕ). get_or (row ∷ rows) i []) (sym e);
      some = one.some;
    }

one_first : (n : ℕ) (row : List ℕ) (rows : List (List ℕ)) → is_some (n, row) ≡ true → IsOne n (row ∷ rows) (n, row)
one_first n row rows test = record {
  low = omega arith;
  high = omega arith;
  row = let e : 0 ≡ n - n = omega arith in ap (λ (i : ℕ). get_or (row ∷ rows) i []) e;
  some = some_of (stored_length row) test;
}

all_of_rows : (n : ℕ) (rows : List (List ℕ)) → All (IsOne n rows) (from n rows)
all_of_rows n [] = All-nil (IsOne n [])
all_of_rows n (row ∷ rows) =
    let rest : List Entry = from (n + 1) rows in
    let behind : All (IsOne n (row ∷ rows)) rest = λ k d low. one_behind n row rows (get_or rest k d) (all_of_rows (n + 1) rows k d low) in
    either (All (IsOne n (row ∷ rows))) (is_some (n, row)) (n, row) rest (λ test. All-cons (IsOne n (row ∷ rows)) (n, row) rest (one_first n row rows test) behind) (λ _. behind)

-- the checkpoint of an array of rows is one of the grammar
pub saved_is : (slot : Slot) (rows : List (List ℕ)) → IsSlot slot → length rows ≡ OID_LIMIT → ((i : ℕ) → i < length rows → length (get_or rows i []) ≡ 16)
    → All (λ entry. AreWords entry.1) (saved rows) → IsCheckpoint (checkpoint_of slot rows)
saved_is slot rows is count each words = record {
  slot = is;
  each = λ k d low.
      let one = all_of_rows 0 rows k d low in
      let entry : Entry = get_or (saved rows) k d in
      let high = one.high in
      let e : entry.0 - 0 ≡ entry.0 = omega arith in
      let same = one.row ∙ ap (λ (i : ℕ). get_or rows i []) e in
      let saves : IsSaved entry = record {
        is = record { oid = omega (arith, high, count); row = ap length same ∙ each entry.0 (omega (arith, high)) };
        words = words k d low;
        some = one.some;
      } in saves;
  ascending = all_ascend 0 rows;
}

-- the row of a number after another one's was set
set_other : (base : Rows) (n x : ℕ) (row : List ℕ) → x ≢ n → set_row base n row x ≡ base x
set_other base n x row differ = let test : eqb x n ≡ false = grind (arith, nat_tests, differ) in ap (λ (b : Bool). cond b row (base x)) test

set_same : (base : Rows) (n x : ℕ) (row : List ℕ) → x ≡ n → set_row base n row x ≡ row
set_same base n x row same = let test : eqb x n ≡ true = grind (arith, nat_tests, same) in ap (λ (b : Bool). cond b row (base x)) test

-- a number below all of them is not set
not_set : (n : ℕ) (rows : List (List ℕ)) (base : Rows) (x : ℕ) → x < n → set_rows (from n rows) base x ≡ base x
not_set n [] base x low = refl
not_set n (row ∷ rows) base x low =
    either (λ (es : List Entry). set_rows es base x ≡ base x) (is_some (n, row)) (n, row) (from (n + 1) rows)
    (λ _. not_set (n + 1) rows (set_row base n row) x (omega (arith, low)) ∙ set_other base n x row (omega (arith, low)))
    (λ _. not_set (n + 1) rows base x (omega (arith, low)))

-- each number of the array has its row, or what was there where the row is zero
set_at : (n : ℕ) (rows : List (List ℕ)) (base : Rows) (k x : ℕ) → x ≡ n + k → k < length rows → (stored_length (get_or rows k []) ≡ 0 → base x ≡ get_or rows k []) → set_rows (from n rows) base x ≡ get_or rows k []
set_at n [] base k x is low zero_is = absurd (omega (arith, low))
set_at n (row ∷ rows) base zero x is low zero_is =
    either (λ (es : List Entry). set_rows es base x ≡ row) (is_some (n, row)) (n, row) (from (n + 1) rows)
    (λ _. not_set (n + 1) rows (set_row base n row) x (omega (arith, is)) ∙ set_same base n x row (omega (arith, is)))
    (λ test. not_set (n + 1) rows base x (omega (arith, is)) ∙ zero_is (none_of (stored_length row) test))
set_at n (row ∷ rows) base (suc k) x is low zero_is =
    either (λ (es : List Entry). set_rows es base x ≡ get_or rows k []) (is_some (n, row)) (n, row) (from (n + 1) rows)
    (λ _. set_at (n + 1) rows (set_row base n row) k x (omega (arith, is)) (omega (arith, low)) (λ none. set_other base n x row (omega (arith, is)) ∙ zero_is none))
    (λ _. set_at (n + 1) rows base k x (omega (arith, is)) (omega (arith, low)) zero_is)

-- the checkpoint of an array has its rows
pub saved_rows : (slot : Slot) (rows : List (List ℕ)) → length rows ≡ OID_LIMIT → ((i : ℕ) → i < length rows → length (get_or rows i []) ≡ 16)
    → SameRows (rows_of_checkpoint (checkpoint_of slot rows)) (rows_of rows)
saved_rows slot rows count each x low =
    let below : x < length rows = omega (arith, low, count) in
    set_at 0 rows zero_rows x x (omega arith) below (λ none.
    let row : List ℕ = get_or rows x [] in
    let long : length row - stored_length row ≡ 16 = omega (arith, none, each x below) in
    ap (λ (m : ℕ). replicate m 0) (sym long) ∙ ap (λ (m : ℕ). take m row ++ replicate (length row - stored_length row) 0) (sym none) ∙ stored_whole row)

-- they have few words
few_words : (n : ℕ) (rows : List (List ℕ)) → ((i : ℕ) → i < length rows → length (get_or rows i []) ≡ 16) → length (flat_map (entry_words Stored) (from n rows)) ≤ 17 * length rows
few_words n [] each = omega arith
few_words n (row ∷ rows) each =
    let rest : List Entry = from (n + 1) rows in
    let few = few_words (n + 1) rows (λ i low. each (suc i) (omega (arith, low))) in
    let one = each 0 (omega arith) in
    either (λ (es : List Entry). length (flat_map (entry_words Stored) es) ≤ 17 * length (row ∷ rows)) (is_some (n, row)) (n, row) rest
    (λ _. omega (arith, few, one, length-row_words stored_length-le row, stored_length-le row, length-append (entry_words Stored (n, row)) (flat_map (entry_words Stored) rest)))
    (λ _. omega (arith, few))

pub slot_fits : (slot : Slot) (rows : List (List ℕ)) → length rows ≡ OID_LIMIT → ((i : ℕ) → i < length rows → length (get_or rows i []) ≡ 16)
    → length (slot_words (checkpoint_of slot rows)) ≤ SLOT_WORDS
slot_fits slot rows count each =
    let body : List ℕ = slot_body (checkpoint_of slot rows) in
    omega (arith, few_words 0 rows each, count, length-append body (digest_of body ∷ []))
