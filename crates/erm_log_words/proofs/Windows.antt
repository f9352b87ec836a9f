-- Words of files of which some bytes changed.
use Rattle.std.proofs.Common.{◌≡◌, ℕ, zero, suc, ◌+◌, ◌-◌, ◌*◌, ◌/◌, ◌%◌, ◌<◌, ◌≤◌, ◌==◌, Bool, true, false, if◌then◌else◌, List, [], ◌∷◌, length, get_or, take, drop, Option, Some, None, refl, sym, ap, ◌∙◌, arith, length-take, length-drop}
use Rattle.std.specs.Int.{w64, from_le_bytes}
use Rattle.std.specs.List.{slice_get}
use Rattle.std.proofs.lemmas.Bool.{eqb-true}
use Rattle.std.proofs.lemmas.Option.{slice_get-get_or}
use Rattle.erm_outside.specs.declared.disk.File.TheVariants.{Slot0, Slot1, Segment}
use Rattle.erm_outside.specs.Disk.{Image, Torn}
use Rattle.erm_log_words.specs.Words.{spelled_word, Spares, word_at, word_in}

-- a list from a place on: what stands there, if anything, and then the list from the next place on
cons_if : Option ℕ → List ℕ → List ℕ
cons_if None xs = []
cons_if (Some x) xs = x ∷ xs

first_of : (n b : ℕ) (xs : List ℕ) → take (suc n) (drop b xs) ≡ cons_if (slice_get xs b) (take n (drop (b + 1) xs))
unfolding cons_if
first_of n zero [] = refl
first_of n (suc b) [] = refl
first_of n zero (x ∷ xs) = refl
first_of n (suc b) (x ∷ xs) =
    let e : suc b + 1 ≡ suc (b + 1) = omega arith in
    rw e (first_of n b xs)

-- two lists, each from a place of its own on, with the same at n places
pub window : (n b c : ℕ) (xs ys : List ℕ) → ((i : ℕ) → i < n → slice_get xs (b + i) ≡ slice_get ys (c + i)) → take n (drop b xs) ≡ take n (drop c ys)
window zero b c xs ys same = refl
window (suc n) b c xs ys same =
    let here : slice_get xs b ≡ slice_get ys c = ap (slice_get xs) (let e : b ≡ b + 0 = omega arith in e) ∙ same 0 (omega arith) ∙ ap (slice_get ys) (let e : c + 0 ≡ c = omega arith in e) in
    let behind = window n (b + 1) (c + 1) xs ys (λ i lt. ap (slice_get xs) (let e : b + 1 + i ≡ b + (i + 1) = omega arith in e) ∙ same (i + 1) (omega arith) ∙ ap (slice_get ys) (let e : c + (i + 1) ≡ c + 1 + i = omega arith in e)) in
    first_of n b xs
    ∙ ap (λ (x : Option ℕ). cons_if x (take n (drop (b + 1) xs))) here
    ∙ ap (λ (rest : List ℕ). cons_if (slice_get ys c) rest) behind
    ∙ sym (first_of n c ys)

test_of : (test : Bool) (x y : ℕ) → ◌≡◌ {A = Option ℕ} (if test then Some x else None) (Some y) → test ≡ true
test_of true x y e = refl
test_of false x y e = absurd (cc)

-- where a word is there, so are its eight bytes
pub word_is_long : (file : List ℕ) (b word : ℕ) → word_in file b ≡ Some word → b + 8 ≤ length file
word_is_long file b word is =
    let whole : length (take 8 (drop b file)) ≡ 8 = eqb-true (length (take 8 (drop b file))) 8 (test_of (length (take 8 (drop b file)) == 8) (from_le_bytes w64 (take 8 (drop b file))) word is) in
    omega (arith, whole, length-take 8 (drop b file), length-drop b file)

-- a word before the bytes that may have changed is there as before
pub word_before : (at n b word : ℕ) (old new : List ℕ) → Torn at n old new → b + 8 ≤ at → word_in old b ≡ Some word → word_in new b ≡ Some word
word_before at n b word old new torn le is =
    let long = word_is_long old b word is in
    let same = λ (i : ℕ) (lt : i < 8). let there : slice_get old (b + i) ≡ Some (get_or old (b + i) 0) = slice_get-get_or old (b + i) 0 (omega arith) in
    torn.before (b + i) (get_or old (b + i) 0) (omega arith) there ∙ sym there in
    ap spelled_word (window 8 b b new old same) ∙ is

-- one behind them is the same
pub word_behind : (at n b : ℕ) (old new : List ℕ) → Torn at n old new → at + n ≤ b → word_in new b ≡ word_in old b
word_behind at n b old new torn le = ap spelled_word (window 8 b b new old (λ i lt. torn.behind (b + i) (omega arith)))

-- the byte of a segment at which the words from a place of the log on begin; none of it does where they begin before
abbrev pub byte_in : ℕ → ℕ → ℕ
byte_in place segment = 8 * (place - 65536 * segment)

-- where segments may have changed in words of the log from a place on, and the slots did not, other words are spared
pub spared : (at n : ℕ) (old new : Image) → new Slot0 ≡ old Slot0 → new Slot1 ≡ old Slot1
    → ((s : ℕ) → Torn (byte_in at s) (byte_in (at + n) s - byte_in at s) (old (Segment s)) (new (Segment s))) → Spares at (at + n) old new
unfolding word_at
spared at n old new slot0 slot1 torn = record {
  slot0 = slot0;
  slot1 = slot1;
  before = λ p word lt is. word_before (byte_in at (p / 65536)) (byte_in (at + n) (p / 65536) - byte_in at (p / 65536)) (8 * (p % 65536)) word (old (Segment (p / 65536))) (new (Segment (p / 65536))) (torn (p / 65536)) (omega arith) is;
  behind = λ p le. word_behind (byte_in at (p / 65536)) (byte_in (at + n) (p / 65536) - byte_in at (p / 65536)) (8 * (p % 65536)) (old (Segment (p / 65536))) (new (Segment (p / 65536))) (torn (p / 65536)) (omega arith);
}
