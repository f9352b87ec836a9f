-- Words at the front of bytes.
use Rattle.std.proofs.Common.{◌≡◌, ℕ, zero, suc, ◌+◌, ◌-◌, ◌*◌, ◌/◌, ◌≤◌, List, [], ◌∷◌, ◌++◌, length, get_or, take, drop, refl, sym, ap, ◌∙◌, arith, length-drop, length-append, append-nil}
use Rattle.std.specs.Int.{w64, from_le_bytes}
use Rattle.std.proofs.lemmas.List.{drop-append-le, get_or_append_left, length-take-le, take-append-drop, take-append-le, take_at}
use Rattle.erm_bytes.specs.Bytes.{words_of}
use Rattle.erm_bytes.proofs.Words.{length-words_of}
use Rattle.erm_replica.specs.Stream.{first_word, words_in}

-- the words of bytes that are cut between two words
pub words_of-append : (n m k : ℕ) (xs ys : List ℕ) → length xs ≡ 8 * n → k ≡ n + m → words_of k (xs ++ ys) ≡ words_of n xs ++ words_of m ys
unfolding words_of
words_of-append zero m k [] ys size e = ap (λ (j : ℕ). words_of j ys) (let f : k ≡ m = omega (arith, e) in f)
words_of-append zero m k (x ∷ xs) ys size e = absurd (omega (arith, size))
words_of-append (suc n) m zero xs ys size e = absurd (omega (arith, e))
words_of-append (suc n) m (suc k) xs ys size e =
    let long : 8 ≤ length xs = omega (arith, size) in
    let others = words_of-append n m k (drop 8 xs) ys (omega (arith, size, length-drop 8 xs)) (omega (arith, e)) in
    ap (λ (front : List ℕ). from_le_bytes w64 front ∷ words_of k (drop 8 (xs ++ ys))) (take-append-le 8 xs ys long)
    ∙ ap (λ (bytes : List ℕ). from_le_bytes w64 (take 8 xs) ∷ words_of k bytes) (drop-append-le 8 xs ys long)
    ∙ ap (λ (ws : List ℕ). from_le_bytes w64 (take 8 xs) ∷ ws) others

-- the first so many words, and those behind
pub words_in-front : (n : ℕ) (bytes : List ℕ) → 8 * n ≤ length bytes
    → words_in bytes ≡ words_of n (take (8 * n) bytes) ++ words_of (length bytes / 8 - n) (drop (8 * n) bytes)
words_in-front n bytes le =
    ap (λ (b : List ℕ). words_of (length bytes / 8) b) (sym (take-append-drop (8 * n) bytes))
    ∙ words_of-append n (length bytes / 8 - n) (length bytes / 8) (take (8 * n) bytes) (drop (8 * n) bytes) (length-take-le (8 * n) bytes le) (omega (arith, le))

pub length-words_in : (bytes : List ℕ) → length (words_in bytes) ≡ length bytes / 8
length-words_in bytes = length-words_of (length bytes / 8) bytes

-- all whole words
words_in-whole : (bytes : List ℕ) → words_in bytes ≡ words_of (length bytes / 8) (take (8 * (length bytes / 8)) bytes)
unfolding words_of
words_in-whole bytes =
    let n : ℕ = length bytes / 8 in
    let none : n - n ≡ 0 = omega arith in
    words_in-front n bytes (omega arith)
    ∙ ap (λ (k : ℕ). words_of n (take (8 * n) bytes) ++ words_of k (drop (8 * n) bytes)) none
    ∙ append-nil (words_of n (take (8 * n) bytes))

-- more bytes leave the words in front
pub words_in-more : (xs ys : List ℕ) → (more : List ℕ) × (words_in (xs ++ ys) ≡ words_in xs ++ more)
words_in-more xs ys =
    let n : ℕ = length xs / 8 in
    let long : 8 * n ≤ length (xs ++ ys) = omega (arith, length-append xs ys) in
    let more : List ℕ = words_of (length (xs ++ ys) / 8 - n) (drop (8 * n) (xs ++ ys)) in (
      more,
      words_in-front n (xs ++ ys) long
          ∙ ap (λ (front : List ℕ). words_of n front ++ more) (take-append-le (8 * n) xs ys (omega arith))
          ∙ ap (λ (front : List ℕ). front ++ more) (sym (words_in-whole xs)),
    )

pub first_word-more : (xs ys : List ℕ) → 8 ≤ length xs → first_word (xs ++ ys) ≡ first_word xs
first_word-more xs ys long =
    let more = words_in-more xs ys in
    ap (λ (ws : List ℕ). get_or ws 0 0) more.1 ∙ get_or_append_left (words_in xs) more.0 0 0 (omega (arith, long, length-words_in xs))

-- of two lists with the same front, as long
pub same_front : (a b x y : List ℕ) → a ++ x ≡ b ++ y → length a ≡ length b → a ≡ b
same_front a b x y e size = sym (take_at a x (length a) refl) ∙ ap (take (length a)) e ∙ take_at b y (length a) (sym size)

-- and one no longer than the other
pub front_of_front : (a b x y : List ℕ) → a ++ x ≡ b ++ y → length a ≤ length b → (more : List ℕ) × (b ≡ a ++ more)
front_of_front a b x y e le =
    let front : a ≡ take (length a) b = sym (take_at a x (length a) refl) ∙ ap (take (length a)) e ∙ take-append-le (length a) b y le in (
      drop (length a) b,
      sym (take-append-drop (length a) b) ∙ ap (λ (f : List ℕ). f ++ drop (length a) b) (sym front),
    )
