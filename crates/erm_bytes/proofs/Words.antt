-- Words and their bytes, in both directions.
use Rattle.std.proofs.Common.{◌≡◌, ℕ, zero, suc, ◌+◌, ◌*◌, ◌^◌, ◌<◌, ◌≤◌, List, [], ◌∷◌, ◌++◌, length, get_or, take, drop, slice_index, refl, sym, ap, ◌∙◌, arith, length-drop}
use Rattle.std.specs.Int.{w64, to_le_bytes, from_le_bytes, bytes_low_first, byte_at}
use Rattle.std.proofs.lemmas.List.{get_or-take, get_or_past, drop-drop, take-append-drop, length-take-le}
use Rattle.std.proofs.lemmas.List.Elements.{All-take, All-drop, All-head, All-tail, All-nil, All-cons, All-append}
use Rattle.std.proofs.lemmas.Nat.{le_bytes_8, from_le_bytes-to_le_bytes_8}
use Rattle.std.proofs.lemmas.Bool.{cases_lt}
use Rattle.std.proofs.Common.{inl, inr}
use Rattle.byteorder.specs.Endian.{little_number}
use Rattle.erm_bytes.specs.Bytes.{AreWords, AreBytes, bytes_of, words_of}

-- a word read in place is the word that its eight bytes spell
pub from_le_bytes-take : (bytes : List ℕ) → from_le_bytes w64 (take 8 bytes) ≡ little_number 8 bytes
from_le_bytes-take bytes =
    omega (arith, get_or-take 8 bytes 0 0 (omega arith), get_or-take 8 bytes 1 0 (omega arith), get_or-take 8 bytes 2 0 (omega arith), get_or-take 8 bytes 3 0 (omega arith), get_or-take 8 bytes 4 0 (omega arith), get_or-take 8 bytes 5 0 (omega arith), get_or-take 8 bytes 6 0 (omega arith), get_or-take 8 bytes 7 0 (omega arith))

-- words that were each read in its place are the words that the bytes spell
pub words_of_lem : (words bytes : List ℕ) → ((k : ℕ) → k < length words → slice_index words k ≡ little_number 8 (drop (8 * k) bytes)) → words ≡ words_of (length words) bytes
unfolding words_of
words_of_lem [] bytes read = refl
words_of_lem (x ∷ xs) bytes read =
    let first : x ≡ from_le_bytes w64 (take 8 bytes) = read 0 (omega arith) ∙ sym (from_le_bytes-take bytes) in
    let moved = λ (k : ℕ). drop-drop (8 * k) 8 bytes ∙ ap (λ (n : ℕ). drop n bytes) (let e : 8 + 8 * k ≡ 8 * suc k = omega arith in e) in
    let others = words_of_lem xs (drop 8 bytes) (λ k below. read (suc k) (omega arith) ∙ ap (little_number 8) (sym (moved k))) in
    ap (λ (w : ℕ). w ∷ xs) first ∙ ap (λ (ws : List ℕ). from_le_bytes w64 (take 8 bytes) ∷ ws) others

-- a byte anywhere, past the end too, is below 256
get_or-AreBytes : (bytes : List ℕ) → AreBytes bytes → (i : ℕ) → get_or bytes i 0 < 256
get_or-AreBytes bytes are i =
    elim (cases_lt i (length bytes)) [
      | inl lt ↦ are i 0 lt
      | inr le ↦ rw (get_or_past bytes i 0 le) (omega arith)
    ]

-- the bytes of the words that bytes spell
pub bytes_of-words_of : (n : ℕ) (bytes : List ℕ) → AreBytes bytes → length bytes ≡ 8 * n → bytes_of (words_of n bytes) ≡ bytes
unfolding words_of
bytes_of-words_of zero [] are whole = refl
bytes_of-words_of zero (x ∷ xs) are whole = absurd (omega (arith, whole))
bytes_of-words_of (suc n) bytes are whole =
    let long : 8 ≤ length bytes = omega arith in
    let first = le_bytes_8 (take 8 bytes) _ (length-take-le 8 bytes long) (get_or-AreBytes (take 8 bytes) (All-take (λ b. b < 2 ^ 8) 8 bytes are)) refl in
    let others = bytes_of-words_of n (drop 8 bytes) (All-drop (λ b. b < 2 ^ 8) 8 bytes are) (omega (arith, length-drop 8 bytes)) in
    ap (λ (front : List ℕ). front ++ bytes_of (words_of n (drop 8 bytes))) first ∙ ap (λ (rest : List ℕ). take 8 bytes ++ rest) others ∙ take-append-drop 8 bytes

-- so many words
pub length-words_of : (n : ℕ) (bytes : List ℕ) → length (words_of n bytes) ≡ n
unfolding words_of
length-words_of zero bytes = refl
length-words_of (suc n) bytes = omega (arith, length-words_of n (drop 8 bytes))

-- the words that the bytes of words spell
pub words_of-bytes_of : (words : List ℕ) → AreWords words → words_of (length words) (bytes_of words) ≡ words
unfolding words_of
words_of-bytes_of [] are = refl
words_of-bytes_of (x ∷ xs) are =
    let first : from_le_bytes w64 (to_le_bytes w64 x) ≡ x = from_le_bytes-to_le_bytes_8 x (All-head (λ w. w < 2 ^ 64) x xs are) in
    let others = words_of-bytes_of xs (All-tail (λ w. w < 2 ^ 64) x xs are) in
    ap (λ (w : ℕ). w ∷ words_of (length xs) (bytes_of xs)) first ∙ ap (λ (ws : List ℕ). x ∷ ws) others

-- eight bytes for each word
pub length-bytes_of : (words : List ℕ) → length (bytes_of words) ≡ 8 * length words
length-bytes_of [] = refl
length-bytes_of (x ∷ xs) = omega (arith, length-bytes_of xs)

-- words with the same bytes are the same
pub same_words : (a b : List ℕ) → AreWords a → AreWords b → bytes_of a ≡ bytes_of b → a ≡ b
same_words a b are_a are_b e =
    let same_length : length a ≡ length b = omega (arith, length-bytes_of a, length-bytes_of b, ap length e) in
    sym (words_of-bytes_of a are_a) ∙ ap (λ (n : ℕ). words_of n (bytes_of a)) same_length ∙ ap (words_of (length b)) e ∙ words_of-bytes_of b are_b

byte_at-below : (i n : ℕ) → byte_at i n < 2 ^ 8
byte_at-below zero n = omega arith
byte_at-below (suc i) n = omega arith

AreBytes-bytes_low_first : (i k n : ℕ) → AreBytes (bytes_low_first i k n)
AreBytes-bytes_low_first i zero n = All-nil (λ b. b < 2 ^ 8)
AreBytes-bytes_low_first i (suc k) n =
    All-cons (λ b. b < 2 ^ 8) (byte_at i n) (bytes_low_first (suc i) k n) (byte_at-below i n) (AreBytes-bytes_low_first (suc i) k n)

-- words have bytes
pub AreBytes-bytes_of : (words : List ℕ) → AreBytes (bytes_of words)
AreBytes-bytes_of [] = All-nil (λ b. b < 2 ^ 8)
AreBytes-bytes_of (x ∷ xs) = All-append (λ b. b < 2 ^ 8) (to_le_bytes w64 x) (bytes_of xs) (AreBytes-bytes_low_first 0 8 x) (AreBytes-bytes_of xs)
