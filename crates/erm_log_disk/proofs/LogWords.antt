-- The words of the log from a place on: cut and joined.
use Rattle.std.proofs.Common.{◌≡◌, ℕ, zero, suc, ◌+◌, ◌-◌, ◌<◌, ◌≤◌, List, [], ◌∷◌, ◌++◌, length, take, drop, Option, None, Some, refl, sym, ap, ◌∙◌, arith}
use Rattle.std.specs.Prelude.{min}
use Rattle.erm_outside.specs.Disk.{Image}
use Rattle.erm_log_words.specs.Words.{and_then, word_at, words_from}

-- ---- one word and those behind it

then_length : (w : Option ℕ) (xs : List ℕ) (n : ℕ) → length xs ≤ n → length (and_then w xs) ≤ suc n
then_length None xs n few = omega arith
then_length (Some x) xs n few = omega arith

then_short : (w : Option ℕ) (xs ys : List ℕ) (n : ℕ) → length (and_then w xs) < suc n → (length xs < n → ys ≡ xs) → and_then w ys ≡ and_then w xs
then_short None xs ys n short rest = refl
then_short (Some x) xs ys n short rest = ap (λ (zs : List ℕ). x ∷ zs) (rest (omega arith))

then_join : (w : Option ℕ) (xs ys zs : List ℕ) (n : ℕ) → length (and_then w xs) ≡ suc n → (length xs ≡ n → zs ≡ xs ++ ys) → and_then w zs ≡ and_then w xs ++ ys
then_join None xs ys zs n all rest = absurd (omega arith)
then_join (Some x) xs ys zs n all rest = ap (λ (vs : List ℕ). x ∷ vs) (rest (omega arith))

then_take : (w : Option ℕ) (xs ys : List ℕ) (n : ℕ) → take n xs ≡ ys → take (suc n) (and_then w xs) ≡ and_then w ys
then_take None xs ys n rest = refl
then_take (Some x) xs ys n rest = ap (λ (zs : List ℕ). x ∷ zs) rest

-- ---- words from a place on

-- at most as many as are asked for
pub words_from-length : (image : Image) (at n : ℕ) → length (words_from image at n) ≤ n
words_from-length image at zero = omega arith
words_from-length image at (suc n) = then_length (word_at image at) (words_from image (at + 1) n) n (words_from-length image (at + 1) n)

-- where one isn't there, asking for more gives no more
pub words_from-short : (image : Image) (at n m : ℕ) → n ≤ m → length (words_from image at n) < n → words_from image at m ≡ words_from image at n
words_from-short image at zero m few short = absurd (omega arith)
words_from-short image at (suc n) zero few short = absurd (omega arith)
words_from-short image at (suc n) (suc m) few short =
    then_short (word_at image at) (words_from image (at + 1) n) (words_from image (at + 1) m) n short (λ less. words_from-short image (at + 1) n m (omega arith) less)

-- where all are there, those behind follow
pub words_from-join : (image : Image) (at n k m : ℕ) → m ≡ n + k → length (words_from image at n) ≡ n → words_from image at m ≡ words_from image at n ++ words_from image (at + n) k
words_from-join image at zero k m sum all =
    ap (λ (j : ℕ). words_from image at j) (let e : m ≡ k = omega arith in e) ∙ ap (λ (p : ℕ). words_from image p k) (let e : at ≡ at + 0 = omega arith in e)
words_from-join image at (suc n) k zero sum all = absurd (omega arith)
words_from-join image at (suc n) k (suc m) sum all =
    let behind : words_from image (at + 1 + n) k ≡ words_from image (at + suc n) k = ap (λ (p : ℕ). words_from image p k) (let e : at + 1 + n ≡ at + suc n = omega arith in e) in
    then_join (word_at image at) (words_from image (at + 1) n) (words_from image (at + suc n) k) (words_from image (at + 1) m) n all
    (λ rest. words_from-join image (at + 1) n k m (omega arith) rest ∙ ap (λ (ws : List ℕ). words_from image (at + 1) n ++ ws) behind)

-- a front of them
pub words_from-take : (image : Image) (at n m k : ℕ) → k ≡ min n m → take n (words_from image at m) ≡ words_from image at k
words_from-take image at zero m k least = ap (λ (j : ℕ). words_from image at j) (let e : 0 ≡ k = omega arith in e)
words_from-take image at (suc n) zero k least = ap (λ (j : ℕ). words_from image at j) (let e : 0 ≡ k = omega arith in e)
words_from-take image at (suc n) (suc m) zero least = absurd (omega arith)
words_from-take image at (suc n) (suc m) (suc k) least =
    then_take (word_at image at) (words_from image (at + 1) m) (words_from image (at + 1) k) n (words_from-take image (at + 1) n m k (omega arith))
