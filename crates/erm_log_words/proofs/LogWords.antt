-- The words of the log from a place on, as a list.
use Rattle.std.proofs.Common.{◌≡◌, ℕ, zero, suc, ◌+◌, ◌-◌, ◌≤◌, List, [], ◌∷◌, ◌++◌, length, drop, slice_index, Option, Some, None, refl, ap, ◌∙◌, arith}
use Rattle.std.proofs.lemmas.List.{drop_at}
use Rattle.erm_model.specs.declared.limits.TheConstants.{LOG_END}
use Rattle.erm_outside.specs.Disk.{Image}
use Rattle.erm_log_words.specs.Words.{and_then, Has, log_words, Spares, word_at, words_from}

cons_is : (x : Option ℕ) (w : ℕ) (xs ys : List ℕ) → and_then x xs ≡ w ∷ ys → x ≡ Some w
cons_is None w xs ys e = absurd (cc)
cons_is (Some x) w xs ys e = cc

rest_is : (x : Option ℕ) (w : ℕ) (xs ys : List ℕ) → and_then x xs ≡ w ∷ ys → xs ≡ ys
rest_is None w xs ys e = absurd (cc)
rest_is (Some x) w xs ys e = cc

-- words that stand at a place, and those behind
front_from : (image : Image) (at n : ℕ) (words : List ℕ) → Has image at words → length words ≤ n
    → words_from image at n ≡ words ++ words_from image (at + length words) (n - length words)
front_from image at n [] has le =
    let place : at ≡ at + 0 = omega arith in
    let left : n ≡ n - 0 = omega arith in
    ap (λ (p : ℕ). words_from image p n) place ∙ ap (λ (k : ℕ). words_from image (at + 0) k) left
front_from image at zero (w ∷ ws) has le = absurd (omega arith)
front_from image at (suc m) (w ∷ ws) has le =
    let here : word_at image at ≡ Some w = ap (word_at image) (let e : at ≡ at + 0 = omega arith in e) ∙ has 0 (omega arith) in
    let others : Has image (at + 1) ws = λ k lt. ap (word_at image) (let e : at + 1 + k ≡ at + suc k = omega arith in e) ∙ has (suc k) (omega arith) in
    let place : at + 1 + length ws ≡ at + length (w ∷ ws) = omega arith in
    let left : m - length ws ≡ suc m - length (w ∷ ws) = omega arith in
    ap (λ (x : Option ℕ). and_then x (words_from image (at + 1) m)) here
    ∙ ap (λ (rest : List ℕ). w ∷ rest) (front_from image (at + 1) m ws others (omega arith))
    ∙ ap (λ (p : ℕ). w ∷ (ws ++ words_from image p (m - length ws))) place
    ∙ ap (λ (k : ℕ). w ∷ (ws ++ words_from image (at + length (w ∷ ws)) k)) left

-- a word at a place, and words behind it
has_next : (image : Image) (at w : ℕ) (ws : List ℕ) → word_at image at ≡ Some w → Has image (at + 1) ws → Has image at (w ∷ ws)
has_next image at w ws here others zero lt = ap (word_at image) (let e : at + 0 ≡ at = omega arith in e) ∙ here
has_next image at w ws here others (suc k) lt = ap (word_at image) (let e : at + suc k ≡ at + 1 + k = omega arith in e) ∙ others k (omega arith)

-- the words in front of the log's words stand at their places
has_from : (image : Image) (at n : ℕ) (words rest : List ℕ) → words_from image at n ≡ words ++ rest → Has image at words
has_from image at n [] rest e = λ k lt. absurd (omega arith)
has_from image at zero (w ∷ ws) rest e = absurd (cc)
has_from image at (suc m) (w ∷ ws) rest e = λ k lt.
    has_next image at w ws (cons_is (word_at image at) w (words_from image (at + 1) m) (ws ++ rest) e)
    (has_from image (at + 1) m ws rest (rest_is (word_at image at) w (words_from image (at + 1) m) (ws ++ rest) e)) k lt

length-words_from : (image : Image) (at n : ℕ) → length (words_from image at n) ≤ n
length-words_from image at zero = omega arith
length-words_from image at (suc n) = some_or_none (word_at image at) (words_from image (at + 1) n) (length-words_from image (at + 1) n) where
  some_or_none : (x : Option ℕ) (xs : List ℕ) → length xs ≤ n → length (and_then x xs) ≤ suc n
  some_or_none None xs le = omega arith
  some_or_none (Some x) xs le = omega arith

-- no word of the log stands at its end
pub length-log_words : (image : Image) (at : ℕ) → length (log_words image at) ≤ LOG_END - at
unfolding log_words
length-log_words image at = length-words_from image at (LOG_END - at)

-- where words stand from a place on, the log's words from there on are these, and then those behind
pub log_words-has : (image : Image) (at : ℕ) (words : List ℕ) → Has image at words → at + length words ≤ LOG_END → log_words image at ≡ words ++ log_words image (at + length words)
unfolding log_words
log_words-has image at words has le =
    let left : LOG_END - at - length words ≡ LOG_END - (at + length words) = omega arith in
    front_from image at (LOG_END - at) words has (omega arith) ∙ ap (λ (n : ℕ). words ++ words_from image (at + length words) n) left

-- and where the log's words begin with some, these stand there
pub has-log_words : (image : Image) (at : ℕ) (words rest : List ℕ) → log_words image at ≡ words ++ rest → Has image at words
unfolding log_words
has-log_words image at words rest e = has_from image at (LOG_END - at) words rest e

-- the words behind them
pub drop-log_words : (image : Image) (at n : ℕ) (words rest : List ℕ) → log_words image at ≡ words ++ rest → length words ≡ n → at + n ≤ LOG_END → drop n (log_words image at) ≡ log_words image (at + n)
drop-log_words image at n words rest e size within =
    ap (drop n) (log_words-has image at words (has-log_words image at words rest e) (omega arith))
    ∙ drop_at words (log_words image (at + length words)) n size
    ∙ ap (λ (k : ℕ). log_words image (at + k)) size

-- what two images have at each place from one on, their logs have
same_from : (a b : Image) (at n : ℕ) → ((p : ℕ) → at ≤ p → word_at a p ≡ word_at b p) → words_from a at n ≡ words_from b at n
same_from a b at zero same = refl
same_from a b at (suc n) same =
    ap (λ (x : Option ℕ). and_then x (words_from a (at + 1) n)) (same at (omega arith))
    ∙ ap (λ (xs : List ℕ). and_then (word_at b at) xs) (same_from a b (at + 1) n (λ p le. same p (omega arith)))

-- behind the words that may differ the logs are the same
pub log_words-behind : (from to : ℕ) (old new : Image) → Spares from to old new → (p : ℕ) → to ≤ p → log_words new p ≡ log_words old p
unfolding log_words
log_words-behind from to old new spares p le = same_from new old p (LOG_END - p) (λ q le_q. spares.behind q (omega arith))

-- words that stand before the words that may differ stand there still
pub has-before : (from to at : ℕ) (words : List ℕ) (old new : Image) → Spares from to old new → at + length words ≤ from → Has old at words → Has new at words
has-before from to at words old new spares le has = λ k lt. spares.before (at + k) (slice_index words k) (omega arith) (has k lt)
