-- Slots as bytes of a file.
use Rattle.std.proofs.Common.{◌≡◌, ℕ, zero, suc, ◌+◌, ◌-◌, ◌*◌, ◌^◌, ◌<◌, ◌≤◌, ◌⊎◌, ◌↔◌, List, [], ◌∷◌, ◌++◌, length, get_or, take, sym, ap, ◌∙◌, arith, length-append, inl, inr}
use Rattle.std.specs.Int.{w64, byte_at, bytes_high_first, from_le_bytes, to_le_bytes}
use Rattle.std.specs.List.{flat_map, All, AllPairs}
use Rattle.std.proofs.lemmas.Bool.{cases_lt}
use Rattle.std.proofs.lemmas.List.{append_assoc, append-nil, get_or_past}
use Rattle.std.proofs.lemmas.List.Concat.{flat_map-append}
use Rattle.std.proofs.lemmas.List.Elements.{All-append, All-cons, All-head, All-nil, All-tail, All-take}
use Rattle.std.proofs.lemmas.Nat.{from_le_bytes-to_le_bytes_8}
use Rattle.sha2.specs.Sha256.{digest_bytes, sha256}
use Rattle.erm_bytes.specs.Bytes.{AreBytes, AreWords, bytes_of, words_of}
use Rattle.erm_bytes.specs.Digest.{digest_of}
use Rattle.erm_bytes.proofs.Words.{from_le_bytes-take, length-bytes_of}
use Rattle.erm_model.specs.declared.limits.TheConstants.{OID_LIMIT}
use Rattle.erm_record.specs.Stored.{stored_length}
use Rattle.erm_record.proofs.StoredRows.{stored_length-le}
use Rattle.erm_block.specs.declared.block.Form.{Form}
use Rattle.erm_block.specs.declared.block.Form.TheVariants.{Whole, Stored}
use Rattle.erm_block.specs.Block.{Entry}
use Rattle.erm_block.specs.Spelling.{entry_words, first_word, row_words}
use Rattle.erm_block.proofs.EntryWords.{length-row_words_le}
use Rattle.erm_log_words.specs.Tears.{BeginsWith}
use Rattle.erm_ckpt.specs.declared.slot.TheConstants.{SLOT_WORDS}
use Rattle.erm_ckpt.specs.Checkpoint.{Checkpoint, IsCheckpoint, IsSaved, StandsIn, format_of, slot_body, slot_words}
use Rattle.erm_ckpt.proofs.OneSlot.{same_from_words}

-- ---- a digest is a word

byte_at-below : (i n : ℕ) → byte_at i n < 2 ^ 8
byte_at-below zero n = omega arith
byte_at-below (suc i) n = omega arith

high_first_are : (k n : ℕ) → AreBytes (bytes_high_first k n)
high_first_are zero n = All-nil (λ b. b < 2 ^ 8)
high_first_are (suc k) n = All-cons (λ b. b < 2 ^ 8) (byte_at k n) (bytes_high_first k n) (byte_at-below k n) (high_first_are k n)

digest_bytes_are : (hash : List ℕ) (n : ℕ) → AreBytes (digest_bytes hash n)
unfolding digest_bytes
digest_bytes_are hash zero = All-nil (λ b. b < 2 ^ 8)
digest_bytes_are hash (suc n) = All-append (λ b. b < 2 ^ 8) (digest_bytes hash n) _ (digest_bytes_are hash n) (high_first_are 4 (get_or hash n 0))

sha256_are : (message : List ℕ) → AreBytes (sha256 message)
unfolding sha256
sha256_are message = digest_bytes_are _ 8

-- a byte anywhere, past the end too
byte_below : (bytes : List ℕ) → AreBytes bytes → (i : ℕ) → get_or bytes i 0 < 256
byte_below bytes are i =
    elim (cases_lt i (length bytes)) [
      | inl lt ↦ are i 0 lt
      | inr le ↦ rw (get_or_past bytes i 0 le) (omega arith)
    ]

word_below : (bytes : List ℕ) → AreBytes bytes → from_le_bytes w64 (take 8 bytes) < 2 ^ 64
word_below bytes are =
    let e = from_le_bytes-take bytes in
    omega (
      arith,
      e,
      byte_below bytes are 0,
      byte_below bytes are 1,
      byte_below bytes are 2,
      byte_below bytes are 3,
      byte_below bytes are 4,
      byte_below bytes are 5,
      byte_below bytes are 6,
      byte_below bytes are 7,
    )

digest_below : (words : List ℕ) → digest_of words < 2 ^ 64
unfolding digest_of
digest_below words = word_below (sha256 (bytes_of words)) (sha256_are (bytes_of words))

-- ---- how many rows and words

-- numbers that ascend between two bounds
few_between : (low high : ℕ) (entries : List Entry) → low ≤ high → AllPairs (λ a b. a.0 < b.0) entries → All (λ entry. low ≤ entry.0) entries → All (λ entry. entry.0 < high) entries
    → length entries + low ≤ high
few_between low high [] order ascend above below = omega (arith, order)
few_between low high (e ∷ es) order ascend above below =
    let first = All-head (λ (entry : Entry). low ≤ entry.0) e es above in
    let under = All-head (λ (entry : Entry). entry.0 < high) e es below in
    let rest = few_between (e.0 + 1) high es (omega (arith, under)) (λ i j d before within. ascend (suc i) (suc j) d (omega (arith, before)) (omega (arith, within)))
    (λ k d low. let less = ascend 0 (suc k) d (omega arith) (omega (arith, low)) in omega (arith, less)) (All-tail (λ (entry : Entry). entry.0 < high) e es below) in
    omega (arith, first, rest)

pub few_entries : (checkpoint : Checkpoint) → IsCheckpoint checkpoint → length checkpoint.entries ≤ OID_LIMIT
few_entries checkpoint is =
    let few = few_between 0 OID_LIMIT checkpoint.entries (omega arith) is.ascending (λ k d low. omega arith) (λ k d low. (is.each k d low).is.oid) in
    omega (arith, few)

few_words : (form : Form) (entries : List Entry) → All IsSaved entries → length (flat_map (entry_words form) entries) ≤ 17 * length entries
few_words form [] each = omega arith
few_words form (e ∷ es) each =
    let one = length-row_words_le stored_length-le form e (All-head IsSaved e es each).is in
    let rest = few_words form es (All-tail IsSaved e es each) in
    omega (arith, one, rest, length-append (entry_words form e) (flat_map (entry_words form) es))

pub slot_short : (checkpoint : Checkpoint) → IsCheckpoint checkpoint → length (slot_words checkpoint) ≤ SLOT_WORDS
slot_short checkpoint is =
    omega (arith, few_entries checkpoint is, few_words checkpoint.form checkpoint.entries is.each, length-append (slot_body checkpoint) (digest_of (slot_body checkpoint) ∷ []))

-- ---- they are words of 64 bits

first_below : (form : Form) (entry : Entry) → IsSaved entry → first_word form entry < 2 ^ 64
first_below Whole entry is = let low = is.is.oid in omega (arith, low)
first_below Stored entry is =
    let low = is.is.oid in
    let row = is.is.row in
    omega (arith, low, row, stored_length-le entry.1)

row_below : (form : Form) (entry : Entry) → IsSaved entry → AreWords (row_words form entry.1)
row_below Whole entry is = is.words
row_below Stored entry is = All-take (λ w. w < 2 ^ 64) (stored_length entry.1) entry.1 is.words

entries_below : (form : Form) (entries : List Entry) → All IsSaved entries → AreWords (flat_map (entry_words form) entries)
entries_below form [] each = All-nil (λ w. w < 2 ^ 64)
entries_below form (e ∷ es) each =
    let one = All-head IsSaved e es each in
    All-append (λ w. w < 2 ^ 64) (entry_words form e) (flat_map (entry_words form) es)
    (All-cons (λ w. w < 2 ^ 64) (first_word form e) (row_words form e.1) (first_below form e one) (row_below form e one))
    (entries_below form es (All-tail IsSaved e es each))

format_below : (form : Form) → format_of form < 2 ^ 64
format_below Whole = omega arith
format_below Stored = omega arith

pub slot_below : (checkpoint : Checkpoint) → IsCheckpoint checkpoint → AreWords (slot_words checkpoint)
slot_below checkpoint is =
    let P : ℕ → Type 0 = λ w. w < 2 ^ 64 in
    let slot = checkpoint.slot in
    let rows : List ℕ = flat_map (entry_words checkpoint.form) checkpoint.entries in
    let count : ℕ = length checkpoint.entries in
    let few = few_entries checkpoint is in
    let stamp = is.slot.stamp_high in
    let run = is.slot.run_high in
    let first = is.slot.first in
    All-append P (slot_body checkpoint) (digest_of (slot_body checkpoint) ∷ [])
    (All-cons P (format_of checkpoint.form) (slot.stamp ∷ slot.run ∷ slot.first ∷ count ∷ rows) (format_below checkpoint.form)
    (All-cons P slot.stamp (slot.run ∷ slot.first ∷ count ∷ rows) (omega (arith, stamp))
    (All-cons P slot.run (slot.first ∷ count ∷ rows) (omega (arith, run))
    (All-cons P slot.first (count ∷ rows) (omega (arith, first, stamp))
    (All-cons P count rows (omega (arith, few)) (entries_below checkpoint.form checkpoint.entries is.each))))))
    (All-cons P (digest_of (slot_body checkpoint)) [] (digest_below (slot_body checkpoint)) (All-nil P))

-- ---- bytes and words

-- the words that the bytes of words spell, and those behind them
words_front : (words rest : List ℕ) (m : ℕ) → AreWords words → words_of (length words + m) (bytes_of words ++ rest) ≡ words ++ words_of m rest
unfolding words_of
words_front [] rest m are = let e : 0 + m ≡ m = omega arith in ap (λ (k : ℕ). words_of k rest) e
words_front (w ∷ ws) rest m are =
    let e : length (w ∷ ws) + m ≡ suc (length ws + m) = omega arith in
    let first : from_le_bytes w64 (to_le_bytes w64 w) ≡ w = from_le_bytes-to_le_bytes_8 w (All-head (λ x. x < 2 ^ 64) w ws are) in
    let others = words_front ws rest m (All-tail (λ x. x < 2 ^ 64) w ws are) in
    ap (λ (k : ℕ). words_of k (bytes_of (w ∷ ws) ++ rest)) e
    ∙ ap (λ (x : ℕ). x ∷ words_of (length ws + m) (bytes_of ws ++ rest)) first ∙ ap (λ (xs : List ℕ). w ∷ xs) others

-- a file has one slot in front
pub same_in_file : (file : List ℕ) (a b : Checkpoint) → IsCheckpoint a → IsCheckpoint b → BeginsWith file (bytes_of (slot_words a)) → BeginsWith file (bytes_of (slot_words b)) → a ≡ b
same_in_file file a b is_a is_b (x, in_a) (y, in_b) =
    let m : ℕ = length (slot_words a) in
    let n : ℕ = length (slot_words b) in
    let swap : m + n ≡ n + m = omega arith in
    same_from_words a b (words_of n x) (words_of m y) is_a is_b
    (sym (words_front (slot_words a) x n (slot_below a is_a)) ∙ ap (words_of (m + n)) (sym in_a ∙ in_b) ∙ ap (λ (k : ℕ). words_of k (bytes_of (slot_words b) ++ y)) swap
    ∙ words_front (slot_words b) y m (slot_below b is_b))

-- so many bytes are enough for the slot's words
enough : (file words tail : List ℕ) (checkpoint : Checkpoint) → IsCheckpoint checkpoint → file ≡ bytes_of words ++ tail → (length tail < 8) ⊎ (SLOT_WORDS ≤ length words)
    → BeginsWith file (bytes_of (slot_words checkpoint)) → length (slot_words checkpoint) ≤ length words
enough file words tail checkpoint is e (inl short) (rest, begins) =
    omega (arith, short, ap length e, ap length begins, length-append (bytes_of words) tail, length-append (bytes_of (slot_words checkpoint)) rest, length-bytes_of words, length-bytes_of (slot_words checkpoint))
enough file words tail checkpoint is e (inr long) begins = omega (arith, long, slot_short checkpoint is)

-- no words
none : (xs rest : List ℕ) → xs ++ words_of 0 rest ≡ xs
unfolding words_of
none xs rest = append-nil xs

-- a file begins with a slot just where its words do
pub in_words : (file words tail : List ℕ) (checkpoint : Checkpoint) → AreWords words → file ≡ bytes_of words ++ tail → (length tail < 8) ⊎ (SLOT_WORDS ≤ length words) → IsCheckpoint checkpoint
    → BeginsWith file (bytes_of (slot_words checkpoint)) ↔ StandsIn words checkpoint
in_words file words tail checkpoint are e room is = (
  λ begins.
      let s : List ℕ = slot_words checkpoint in
      let more : ℕ = length words - length s in
      let fits = enough file words tail checkpoint is e room begins in
      let all : length words + 0 ≡ length s + more = omega (arith, fits) in
      record {
        is = is;
        spelled = (
          words_of more begins.0,
          sym (words_front words tail 0 are ∙ none words tail) ∙ ap (words_of (length words + 0)) (sym e ∙ begins.1)
              ∙ ap (λ (k : ℕ). words_of k (bytes_of s ++ begins.0)) all ∙ words_front s begins.0 more (slot_below checkpoint is),
        );
      },
  λ stands. (
    bytes_of stands.spelled.0 ++ tail,
    e ∙ ap (λ (ws : List ℕ). bytes_of ws ++ tail) stands.spelled.1
        ∙ ap (λ (bs : List ℕ). bs ++ tail) (flat_map-append (λ word. to_le_bytes w64 word) (slot_words checkpoint) stands.spelled.0)
        ∙ append_assoc (bytes_of (slot_words checkpoint)) (bytes_of stands.spelled.0) tail,
  ),
)
