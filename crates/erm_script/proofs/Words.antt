-- The words of a line: where a line is cut, and what a word spells.
use Rattle.std.proofs.Common.{◌==◌, ◌≡◌, ◌≢◌, ℕ, ◌+◌, ◌*◌, ◌^◌, ◌<◌, ◌≤◌, Bool, List, [], ◌∷◌, length, take, drop, get_or, Option, Some, None, Result, Ok, Err, MatchResult, decimal, ◌⊎◌, ap, true, false, nat_eq, Bor, ◌/◌, lit<, ◌↔◌, refl, sym, ◌∙◌, arith, inl, inr}
use Rattle.std.specs.List.{position, position_or_len, slice_split, join_with_byte, All}
use Rattle.std.specs.Result.{result_ok, is_ok}
use Rattle.std.specs.Bool.{OnFalse, IsTrue}
use Rattle.std.specs.Option.{IsSome, IfSome, IfNone}
use Rattle.std.specs.Str.{IsUtf8, IsValidUpTo, valid_up_to}
use Rattle.std.specs.declared.str.Utf8Error.{Utf8Error}
use Rattle.std.specs.Str.Parse.{ParsesUnsigned}
use lib.Pointwise.{pointwise}
use Rattle.std.proofs.lemmas.Bool.{false≢true, cases_lt}
use Rattle.std.proofs.lemmas.List.{get_or_past, get_or_default}
use Rattle.std.proofs.lemmas.Bool.Decides.{nat_tests, Decides-eqb}
use Rattle.std.proofs.lemmas.Slice.Eq.{slice_eq-Decides}
use Rattle.std.proofs.lemmas.List.Sums.{fails_before_first}
use Rattle.std.proofs.lemmas.List.Splits.{slice_split_none, slice_split_first, join_with_byte-slice_split}
use Rattle.std.proofs.lemmas.Str.{IsUtf8-from_ascii}
use Rattle.std.proofs.lemmas.Fmt.{IsAscii-decimal, parse-decimal, digits_decimal}
use Rattle.std.proofs.lemmas.Str.Parse.{numerals_by_value, tells_by_index}
use Rattle.hex.specs.declared.error.FromHexError.{FromHexError}
use Rattle.hex.specs.Hex.{encode_lower, lower_digits, IsBytes, decode_sized}
use Rattle.hex.proofs.HexLemmas.{length-encode_with, decode_sized-encode_lower, decode_of-ok, decode_of-encode_lower}
use Rattle.erm_script.specs.Script.{IsValue}
use Rattle.erm_model.specs.Spelling.{value_word}
use Rattle.erm_script.specs.Words.{words_of}

-- a list in which no element passes is one part
pub slice_split-no_position : {X : Type 0} (p : X → Bool) (xs : List X) → position p xs ≡ None → slice_split p xs ≡ xs ∷ []
slice_split-no_position p xs e =
    let past : length xs ≤ position_or_len p xs = grind (arith, nat_tests) in
    slice_split_none p xs (λ k d h. fails_before_first p xs k d (omega arith))

-- a list is cut at the first element that passes
pub slice_split-position : {X : Type 0} (p : X → Bool) (xs : List X) (i : ℕ) → position p xs ≡ Some i
    → slice_split p xs ≡ take i xs ∷ slice_split p (drop (i + 1) xs)
slice_split-position p [] i e = cc
slice_split-position p (x ∷ xs) i e =
    let here : position_or_len p (x ∷ xs) ≡ i = grind (arith, nat_tests) in
    let within : position_or_len p (x ∷ xs) < length (x ∷ xs) = grind (arith, nat_tests) in
    rw (← here) (slice_split_first p (x ∷ xs) x within)

-- slices that `==` tells apart
pub apart : (xs ys : List ℕ) (r : Bool) → r ≡ pointwise nat_eq xs ys → r ≡ false → xs ≢ ys
apart xs ys r is failed e = false≢true (sym failed ∙ (slice_eq-Decides Decides-eqb xs ys r is).1 e)

-- slices that `==` finds equal
pub alike : (xs ys : List ℕ) (r : Bool) → r ≡ pointwise nat_eq xs ys → r ≡ true → xs ≡ ys
alike xs ys r is passed = (slice_eq-Decides Decides-eqb xs ys r is).0 passed

-- what `from_utf8` says of some bytes
abbrev pub IsTextResult : List ℕ → Result (Bor (List ℕ)) Utf8Error → Type 0
IsTextResult bs r = MatchResult r (λ s. (s.now ≡ bs) × IsUtf8 bs) (λ e. ¬ (IsUtf8 bs) × IsValidUpTo bs (valid_up_to e))

-- bytes that are not read as a text are none
pub no_text : (bs : List ℕ) (r : Result (Bor (List ℕ)) Utf8Error) → result_ok r ≡ None → IsTextResult bs r → ¬ (IsUtf8 bs)
no_text bs (Ok s) none says = cc
no_text bs (Err e) none says = says.0

-- bytes that are read as a text are its bytes
pub text_bytes : (bs : List ℕ) (r : Result (Bor (List ℕ)) Utf8Error) (s : Bor (List ℕ)) → result_ok r ≡ Some s → IsTextResult bs r → s.now ≡ bs
text_bytes bs (Ok t) s some says =
    let same : t ≡ s = cc in
    ap (λ (u : Bor (List ℕ)). u.now) (sym same) ∙ says.0
text_bytes bs (Err e) s some says = cc

-- the spelling of a number is a text
pub IsUtf8-decimal : (bs : List ℕ) (n : ℕ) → n < 2 ^ 64 → bs ≡ decimal n → IsUtf8 bs
IsUtf8-decimal bs n small e = rw e (IsUtf8-from_ascii (decimal n) (IsAscii-decimal n small))

-- a text that is not read as a number spells none
pub unread_spells_none : {E : Type 0} (bs : List ℕ) (r : Result ℕ E) (n : ℕ) → ParsesUnsigned 64 10 bs r → result_ok r ≡ None
    → n < 2 ^ 64 → bs ≢ decimal n
unread_spells_none bs r n reads none small e =
    let is : r ≡ Ok n = parse-decimal 64 n bs r small small e reads in
    cc

-- numbers below 256 are bytes
pub bytes_of : (xs : List ℕ) → All (λ x. x < 256) xs → IsBytes xs
bytes_of xs all i = elim (cases_lt i (length xs)) as (λ _. get_or xs i 0 < 256) [
  | inl within ↦ all i 0 within
  | inr past ↦ rw (get_or_past xs i 0 past) (lit< tt)
]

-- the word of a value is a dash, or digits
pub value_word_cases : (value : List ℕ) → ((value ≡ []) × (value_word value ≡ 45 ∷ [])) ⊎ ((1 ≤ length value) × (value_word value ≡ encode_lower value))
value_word_cases [] = inl (refl, refl)
value_word_cases (b ∷ bs) = inr (omega arith, refl)

-- a word too short or too long for digits that spell a value
pub no_digits : (word value : List ℕ) → IsValue value → word ≢ 45 ∷ [] → (length word / 2 ≡ 0) ⊎ (112 < length word / 2) → word ≢ value_word value
no_digits word value ok dash long e = elim (value_word_cases value) [
  | inl none ↦ dash (e ∙ none.1)
  | inr some ↦
      let twice : length word ≡ 2 * length value = ap length (e ∙ some.1) ∙ length-encode_with lower_digits value in
      let short = ok.0 in
      elim long [ inl zero ↦ omega arith | inr many ↦ omega arith ]
]

-- what `decode_to_slice` says of a word and room for n bytes, which are `bytes` after it
abbrev pub IsReading : List ℕ → ℕ → Result (Unit {0}) FromHexError → List ℕ → Type 0
IsReading word n r bytes = MatchResult (decode_sized word n) (λ bs. (r ≡ Ok tt) × (bytes ≡ bs)) (λ e. r ≡ Err e)

-- digits that spell some bytes are read as those
read_as : (word value bytes : List ℕ) (n : ℕ) (r : Result (Unit {0}) FromHexError) → IsReading word n r bytes → IsBytes value → length value ≡ n
    → word ≡ encode_lower value → (r ≡ Ok tt) × (bytes ≡ value)
read_as word value bytes n r says below long e =
    let is : decode_sized word n ≡ Ok value = ap (λ w. decode_sized w n) e ∙ decode_sized-encode_lower value n long below in
    rw is at says

-- a word that is not read spells no bytes
pub unread_is_other : (word bytes : List ℕ) (n : ℕ) (r : Result (Unit {0}) FromHexError) (read : Bool) → IsReading word n r bytes → read ≡ is_ok r
    → OnFalse read ((value : List ℕ) → IsBytes value → length value ≡ n → word ≢ encode_lower value)
unread_is_other word bytes n r true says is = tt
unread_is_other word bytes n r false says is = λ value below long e.
    let ok = (read_as word value bytes n r says below long e).0 in
    false≢true (is ∙ ap (λ (s : Result (Unit {0}) FromHexError). is_ok s) ok)

-- a word that is read, and is not the digits of what was read, spells no bytes
pub respelled_is_other : (word bytes : List ℕ) (n : ℕ) (r : Result (Unit {0}) FromHexError) (same : Bool) → IsReading word n r bytes
    → IsTrue same ↔ (word ≡ encode_lower bytes)
    → OnFalse same ((value : List ℕ) → IsBytes value → length value ≡ n → word ≢ encode_lower value)
respelled_is_other word bytes n r true says respelled = tt
respelled_is_other word bytes n r false says respelled = λ value below long e.
    let is = (read_as word value bytes n r says below long e).1 in
    false≢true (respelled.1 (e ∙ ap (λ (bs : List ℕ). encode_lower bs) (sym is)))

-- digits that spell no bytes of their number spell no value
pub other_value : (word value : List ℕ) (n : ℕ) → word ≢ 45 ∷ [] → length word / 2 ≡ n
    → ((bytes : List ℕ) → IsBytes bytes → length bytes ≡ n → word ≢ encode_lower bytes) → IsValue value → word ≢ value_word value
other_value word value n dash half other ok e = elim (value_word_cases value) [
  | inl none ↦ dash (e ∙ none.1)
  | inr some ↦
      let twice : length word ≡ 2 * length value = ap length (e ∙ some.1) ∙ length-encode_with lower_digits value in
      other value (bytes_of value ok.1) (omega arith) (e ∙ some.1)
]

-- bytes below 256 are numbers below 256
all_of : (xs : List ℕ) → IsBytes xs → All (λ x. x < 256) xs
all_of xs below k d within = rw (get_or_default xs k d 0 within) (below k)

-- bytes that are few enough are a value, so nothing is said of digits that spell none
pub value_is_made : (word bytes : List ℕ) (r : Option (List ℕ)) → length bytes ≤ 112 → IsSome r ↔ (length bytes ≤ 112)
    → IfNone r ((value : List ℕ) → IsValue value → word ≢ value_word value)
value_is_made word bytes None few fits = absurd (false≢true (fits.1 few))
value_is_made word bytes (Some value) few fits = tt

-- the value of digits
pub value_of_digits : (word bytes : List ℕ) (r : Option (List ℕ)) → IsBytes bytes × (word ≡ encode_lower bytes) → 1 ≤ length bytes → length bytes ≤ 112
    → IfSome r (λ value. value ≡ bytes) → IfSome r (λ value. IsValue value × (word ≡ value_word value))
value_of_digits word bytes None digits some few is = tt
value_of_digits word bytes (Some value) digits some few is =
    rw is (
      (few, all_of bytes digits.0),
      elim (value_word_cases bytes) [
        | inl none ↦ let zero : length bytes ≡ 0 = ap length none.0 in absurd (omega arith)
        | inr spelled ↦ digits.1 ∙ sym spelled.1
      ],
    )

-- a number that was read is the one that was written
pub same_read : {E : Type 0} (r : Result ℕ E) (m n : ℕ) → Some m ≡ result_ok r → r ≡ Ok n → m ≡ n
same_read (Ok k) m n some is = cc
same_read (Err e) m n some is = cc

-- bytes that are one word
pub only_word : (bs word : List ℕ) → words_of bs ≡ word ∷ [] → bs ≡ word
only_word bs word e = sym (join_with_byte-slice_split 32 bs) ∙ ap (λ (parts : List (List ℕ)). join_with_byte 32 parts) e

-- a number that is no space
is_no_space : (b : ℕ) → b ≢ 32 → (b == 32) ≡ false
is_no_space b other = grind (arith, nat_tests)

-- the spelling of a number is one word
pub words_of-decimal : (bs : List ℕ) (n : ℕ) → n < 2 ^ 64 → bs ≡ decimal n → words_of bs ≡ decimal n ∷ []
words_of-decimal bs n small e =
    let digits = digits_decimal (numerals_by_value _ tells_by_index) n small in
    rw e (slice_split_none (λ b. b == 32) (decimal n) (λ k d within.
    let digit = digits k within in
    rw (get_or_default (decimal n) k d 0 within) (is_no_space (get_or (decimal n) k 0) (λ space. omega (arith, digit, space)))))

-- the spelling of a value is one word
pub words_of-value_word : (bs value : List ℕ) → IsValue value → bs ≡ value_word value → words_of bs ≡ value_word value ∷ []
words_of-value_word bs value ok e = rw e (elim (value_word_cases value) [
  | inl dash ↦ rw dash.1 refl
  | inr some ↦
      let digits = (decode_of-ok (encode_lower value) value (decode_of-encode_lower value (bytes_of value ok.1))).1 in
      rw some.1 (slice_split_none (λ b. b == 32) (encode_lower value) (λ k d within.
      is_no_space _ (λ space. let digit = digits k d within in false≢true (rw space at digit))))
])
