-- The words of the log in one segment are those that its file's bytes spell.
use Rattle.std.proofs.Common.{◌≡◌, ℕ, zero, suc, ◌+◌, ◌-◌, ◌*◌, ◌/◌, ◌%◌, ◌<◌, ◌≤◌, List, [], ◌∷◌, ◌++◌, length, take, drop, Bool, true, false, Option, None, Some, refl, sym, ap, ◌∙◌, arith, inl, inr, length-drop, eq-eqb}
use Rattle.std.specs.Prelude.{◌==◌, if◌then◌else◌, min}
use Rattle.std.specs.Int.{w64, from_le_bytes}
use Rattle.std.proofs.lemmas.Bool.{cases_lt}
use Rattle.std.proofs.lemmas.Bool.Decides.{nat_tests}
use Rattle.std.proofs.lemmas.List.{drop-drop, length-take, take-append-le, drop-append-le, take-append-drop}
use Rattle.erm_outside.specs.declared.disk.File.TheVariants.{Segment}
use Rattle.erm_outside.specs.Disk.{Image}
use Rattle.erm_bytes.specs.Bytes.{words_of}
use Rattle.erm_log_words.specs.Words.{and_then, spelled_word, word_at, word_in, words_from}

-- the words of a file from a byte on, up to the first that isn't there, and at most n
abbrev pub words_in : List ℕ → ℕ → ℕ → List ℕ
words_in file byte zero = []
words_in file byte (suc n) = and_then (word_in file byte) (words_in file (byte + 8) n)

-- ---- eight bytes

is_eight : (n : ℕ) → n ≡ 8 → (n == 8) ≡ true
is_eight n is = grind (arith, nat_tests)

not_eight : (n : ℕ) → n < 8 → (n == 8) ≡ false
not_eight n less = grind (arith, nat_tests)

spelled_some : (bytes : List ℕ) → length bytes ≡ 8 → spelled_word bytes ≡ Some (from_le_bytes w64 bytes)
spelled_some bytes is = ap (λ (t : Bool). if t then Some (from_le_bytes w64 bytes) else None) (is_eight (length bytes) is)

spelled_none : (bytes : List ℕ) → length bytes < 8 → spelled_word bytes ≡ None
spelled_none bytes less = ap (λ (t : Bool). if t then Some (from_le_bytes w64 bytes) else None) (not_eight (length bytes) less)

front_length : (file : List ℕ) (byte : ℕ) → length (take 8 (drop byte file)) ≡ min 8 (length file - byte)
front_length file byte = omega (arith, length-take 8 (drop byte file), length-drop byte file)

-- ---- a file's words

words_in-is : (file : List ℕ) (byte n k : ℕ) → k ≡ min ((length file - byte) / 8) n → words_in file byte n ≡ words_of k (drop byte file)
unfolding words_of
words_in-is file byte zero zero is = refl
words_in-is file byte zero (suc k) is = absurd (omega arith)
words_in-is file byte (suc n) zero is =
    let none : word_in file byte ≡ None = spelled_none (take 8 (drop byte file)) (omega (arith, front_length file byte)) in
    ap (λ (w : Option ℕ). and_then w (words_in file (byte + 8) n)) none
words_in-is file byte (suc n) (suc k) is =
    let some : word_in file byte ≡ Some (from_le_bytes w64 (take 8 (drop byte file))) = spelled_some (take 8 (drop byte file)) (omega (arith, front_length file byte)) in
    let rest = words_in-is file (byte + 8) n k (omega arith) in
    let moved : drop (byte + 8) file ≡ drop 8 (drop byte file) = sym (drop-drop 8 byte file ∙ ap (λ (m : ℕ). drop m file) (let e : byte + 8 ≡ byte + 8 = refl in e)) in
    ap (λ (w : Option ℕ). and_then w (words_in file (byte + 8) n)) some
    ∙ ap (λ (ws : List ℕ). from_le_bytes w64 (take 8 (drop byte file)) ∷ ws) (rest ∙ ap (λ (bytes : List ℕ). words_of k bytes) moved)

-- ---- a segment's words

word_at-in : (image : Image) (p m r : ℕ) → p ≡ 65536 * m + r → r < 65536 → word_at image p ≡ word_in (image (Segment m)) (8 * r)
unfolding word_at
word_at-in image p m r is below =
    ap (λ (n : ℕ). word_in (image (Segment n)) (8 * (p % 65536))) (let e : p / 65536 ≡ m = omega arith in e)
    ∙ ap (λ (n : ℕ). word_in (image (Segment m)) (8 * n)) (let e : p % 65536 ≡ r = omega arith in e)

words_from-in : (image : Image) (at m r n : ℕ) → at ≡ 65536 * m + r → r + n ≤ 65536 → words_from image at n ≡ words_in (image (Segment m)) (8 * r) n
words_from-in image at m r zero is one = refl
words_from-in image at m r (suc n) is one =
    let rest = words_from-in image (at + 1) m (r + 1) n (omega arith) (omega arith) in
    let moved : words_in (image (Segment m)) (8 * (r + 1)) n ≡ words_in (image (Segment m)) (8 * r + 8) n =
    ap (λ (byte : ℕ). words_in (image (Segment m)) byte n) (let e : 8 * (r + 1) ≡ 8 * r + 8 = omega arith in e)
    in
    ap (λ (w : Option ℕ). and_then w (words_from image (at + 1) n)) (word_at-in image at m r is (omega arith))
    ∙ ap (λ (ws : List ℕ). and_then (word_in (image (Segment m)) (8 * r)) ws) (rest ∙ moved)

-- words of the log in one segment, by its file's bytes
pub words_from-is : (image : Image) (at n k : ℕ) → at % 65536 + n ≤ 65536 → k ≡ min ((length (image (Segment (at / 65536))) - 8 * (at % 65536)) / 8) n
    → words_from image at n ≡ words_of k (drop (8 * (at % 65536)) (image (Segment (at / 65536))))
words_from-is image at n k one is =
    words_from-in image at (at / 65536) (at % 65536) n (omega arith) one ∙ words_in-is (image (Segment (at / 65536))) (8 * (at % 65536)) n k is

-- ---- words that a front of bytes spells

pub words_of-front : (k : ℕ) (xs ys : List ℕ) → 8 * k ≤ length xs → words_of k (xs ++ ys) ≡ words_of k xs
unfolding words_of
words_of-front zero xs ys long = refl
words_of-front (suc k) xs ys long =
    let first = take-append-le 8 xs ys (omega arith) in
    let others = ap (λ (bytes : List ℕ). words_of k bytes) (drop-append-le 8 xs ys (omega arith)) ∙ words_of-front k (drop 8 xs) ys (omega (arith, length-drop 8 xs)) in
    ap (λ (bytes : List ℕ). from_le_bytes w64 bytes ∷ words_of k (drop 8 (xs ++ ys))) first ∙ ap (λ (ws : List ℕ). from_le_bytes w64 (take 8 xs) ∷ ws) others

pub words_of-take : (k n : ℕ) (bytes : List ℕ) → 8 * k ≤ n → n ≤ length bytes → words_of k (take n bytes) ≡ words_of k bytes
words_of-take k n bytes few there =
    sym (words_of-front k (take n bytes) (drop n bytes) (omega (arith, length-take n bytes))) ∙ ap (λ (bs : List ℕ). words_of k bs) (take-append-drop n bytes)
