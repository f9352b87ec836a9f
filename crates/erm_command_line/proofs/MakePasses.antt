-- The options of `make`, written in either way, pass the walk.
use Rattle.std.proofs.Common.{◌≡◌, ◌⊎◌, ◌+◌, ◌≤◌, ◌||◌, ℕ, suc, Bool, true, false, List, [], ◌∷◌, ◌++◌, length, Option, Some, None, append-nil, append_assoc, refl, sym, ap, ap₂, ◌∙◌, codes, inl, inr, subst, arith}
use Rattle.std.specs.Bool.{⊤}
use Rattle.std.specs.Option.{option_map_or}
use Rattle.std.specs.Str.{bytes_eq}
use Rattle.std.proofs.lemmas.List.Folds.{list_any-append}
use Rattle.clap.specs.Kinds.{Kinds, or_else}
use Rattle.clap.specs.Lexer.{long_of, short_of}
use Rattle.clap.specs.Faults.{bundle_fault, flag_word_fault}
use Rattle.clap.specs.Walk.{Held, Row, Text, Walk, has_row, settled_rows}
use Rattle.clap.proofs.OnLiterals.{clap_on_literals}
use Rattle.erm_command_line.specs.CommandLine.{AreWritten, MakeOption, apart, count, counts_of, joined, marks_of, sessions, sessions_of, text}
use Rattle.erm_command_line.proofs.MakeOptions.{AreFresh, IsFresh, Pending, after, fresh_is_used, fresh_settles, id_of, name_of, option_of, pend, pending_kinds, row, rows_of, rules, use_kinds, use_of, used_last}
use Rattle.erm_command_line.proofs.MakeWalk.{apart_end, apart_turn, apart_word, at, end, end_kinds, faults, joined_end, joined_turn, joined_word, reacts, text_end, text_turn, value_end, value_faults, wanted, wanting}

-- a word that is neither a flag nor `--`
abbrev pub IsPlain : Text → Type 0
IsPlain word = (bytes_eq word (codes "--") ≡ false) × (long_of word ≡ None) × (short_of word ≡ None)

abbrev pub ArePlain : List Text → Type 0
ArePlain [] = ⊤
ArePlain (word ∷ rest) = IsPlain word × ArePlain rest

-- the words pass, and these are the rows at their end
abbrev pub Passes : Walk → List Row → List Text → Type 0
Passes w last words = (faults w words ≡ []) × (end_kinds (end w words) ≡ []) × (settled_rows rules (end w words).pending (end w words).rows ≡ last)

moved : (v w : Walk) (last : List Row) (more words : List Text) → faults v words ≡ faults w more → end v words ≡ end w more → Passes w last more → Passes v last words
moved v w last more words same_faults same_end passes =
    (same_faults ∙ passes.0, ap end_kinds same_end ∙ passes.1, ap (λ (h : Held). settled_rows rules h.pending h.rows) same_end ∙ passes.2)

-- ---- a word and what follows
plain_flag : (b : Bool) (word : Text) (rows : List Row) → IsPlain word → flag_word_fault rules false (long_of word) word (wanted b rows) ≡ []
plain_flag b word rows plain = ap (λ (l : Option (Text × Option Text)). flag_word_fault rules false l word (wanted b rows)) plain.1
    ∙ ap (λ (s : Option Text). option_map_or (λ flags. bundle_fault rules false flags (wanted b rows)) s []) plain.2

apart_passes : (b : Bool) (value : Text) (more : List Text) (rows : List Row) (p : Pending) (last : List Row) → IsPlain value → IsFresh rows p
    → Passes (at (after rows p) (Some (name_of b, value ∷ []))) last more → Passes (at rows (pend p)) last (apart_word b ∷ value ∷ more)
apart_passes b value more rows p last plain fresh passes =
    let there = settled_rows rules (pend p) rows in
    let ready = fresh_settles rows p fresh in
    let flag = plain_flag b value (after rows p) plain in
    moved (at rows (pend p)) (at (after rows p) (Some (name_of b, value ∷ []))) last more (apart_word b ∷ value ∷ more)
    (apart_turn b (value ∷ more) rows (pend p) ∙ ap (λ (k : Kinds). or_else (or_else k []) (faults (wanting b there) (value ∷ more))) ready.0
    ∙ ap (λ (r : List Row). faults (wanting b r) (value ∷ more)) ready.1 ∙ value_faults b value more (after rows p) plain.0 flag)
    (apart_end b (value ∷ more) rows (pend p) ∙ ap (λ (r : List Row). end (wanting b r) (value ∷ more)) ready.1 ∙ value_end b value more (after rows p) plain.0 flag)
    passes

use_passes : (o : MakeOption) (word : Text) (more : List Text) (rows : List Row) (p : Pending) (last : List Row)
    → faults (at rows (pend p)) (word ∷ more) ≡ or_else (or_else (reacts o rows (pend p)) []) (faults (at (use_of o (settled_rows rules (pend p) rows)) None) more)
    → end (at rows (pend p)) (word ∷ more) ≡ end (at (use_of o (settled_rows rules (pend p) rows)) None) more → IsFresh rows p → has_row (id_of o) (after rows p) ≡ false
    → Passes (at (after rows p ++ row o) None) last more → Passes (at rows (pend p)) last (word ∷ more)
use_passes o word more rows p last same_turn same_end fresh unused passes =
    let there = settled_rows rules (pend p) rows in
    let ready = fresh_settles rows p fresh in
    let used : use_of o there ≡ after rows p ++ row o = ap (use_of o) ready.1 ∙ used_last o (after rows p) unused in
    let clear : use_kinds o there ≡ [] = ap (use_kinds o) ready.1 ∙ fresh_is_used o (after rows p) unused in
    moved (at rows (pend p)) (at (after rows p ++ row o) None) last more (word ∷ more)
    (same_turn ∙ ap₂ (λ (j k : Kinds). or_else (or_else (or_else j k) []) (faults (at (use_of o there) None) more)) ready.0 clear ∙ ap (λ (r : List Row). faults (at r None) more) used)
    (same_end ∙ ap (λ (r : List Row). end (at r None) more) used)
    passes

-- ---- all of them
abbrev IsEnding : List Text → Type 0
IsEnding tail = (tail ≡ []) ⊎ (tail ≡ codes "--" ∷ [])

none_passes : (tail : List Text) (rows : List Row) (p : Pending) → IsEnding tail → IsFresh rows p → Passes (at rows (pend p)) (after rows p ++ []) tail
unfolding clap_on_literals
none_passes tail rows p is fresh =
    let ready = fresh_settles rows p fresh in
    let last = ready.1 ∙ sym (append-nil (after rows p)) in
    elim is [
      | inl none ↦ subst (λ (t : List Text). Passes (at rows (pend p)) (after rows p ++ []) t) (sym none) (refl, ready.0, last)
      | inr ended ↦ subst (λ (t : List Text). Passes (at rows (pend p)) (after rows p ++ []) t) (sym ended) (refl, ready.0, last)
    ]

abbrev PassAll : List MakeOption → List Text → Type 0
PassAll options tail = (words : List Text) (rows : List Row) (p : Pending) → AreWritten options words → IsFresh rows p → AreFresh (after rows p) options
    → Passes (at rows (pend p)) (after rows p ++ rows_of options) (words ++ tail)

last_is : (o : MakeOption) (options : List MakeOption) (rows : List Row) (w : Walk) (words : List Text) → Passes w ((rows ++ row o) ++ rows_of options) words → Passes w (rows ++ rows_of (o ∷ options)) words
unfolding rows_of
last_is o options rows w words passes = (passes.0, passes.1, passes.2 ∙ append_assoc rows (row o) (rows_of options))

valued_passes : (b : Bool) (value : Text) (options : List MakeOption) (tail more : List Text) (rows : List Row) (p : Pending) → IsPlain value → PassAll options tail → AreWritten options more → IsFresh rows p
    → has_row (id_of (option_of b value)) (after rows p) ≡ false → has_row (name_of b) (after rows p) ≡ false → AreFresh (after rows p ++ row (option_of b value)) options
    → Passes (at rows (pend p)) (after rows p ++ rows_of (option_of b value ∷ options)) (apart_word b ∷ value ∷ (more ++ tail))
    × Passes (at rows (pend p)) (after rows p ++ rows_of (option_of b value ∷ options)) (joined_word b value ∷ (more ++ tail))
valued_passes b value options tail more rows p plain pass written fresh unused named rest = (
  last_is (option_of b value) options (after rows p) (at rows (pend p)) (apart_word b ∷ value ∷ (more ++ tail))
      (apart_passes b value (more ++ tail) rows p ((after rows p ++ row (option_of b value)) ++ rows_of options) plain fresh (pass more (after rows p) (Some (b, value)) written named rest)),
  last_is (option_of b value) options (after rows p) (at rows (pend p)) (joined_word b value ∷ (more ++ tail))
      (use_passes (option_of b value) (joined_word b value) (more ++ tail) rows p ((after rows p ++ row (option_of b value)) ++ rows_of options)
      (joined_turn b value (more ++ tail) rows (pend p)) (joined_end b value (more ++ tail) rows (pend p)) fresh unused (pass more (after rows p ++ row (option_of b value)) None written tt rest)),
)

written_passes : (o : MakeOption) (options : List MakeOption) (tail words more : List Text) (rows : List Row) (p : Pending) → (words ≡ apart o ++ more) ⊎ (words ≡ joined o ++ more)
    → Passes (at rows (pend p)) (after rows p ++ rows_of (o ∷ options)) ((apart o ++ more) ++ tail) × Passes (at rows (pend p)) (after rows p ++ rows_of (o ∷ options)) ((joined o ++ more) ++ tail)
    → Passes (at rows (pend p)) (after rows p ++ rows_of (o ∷ options)) (words ++ tail)
written_passes o options tail words more rows p how both = elim how [
  | inl is ↦ subst (λ (w : List Text). Passes (at rows (pend p)) (after rows p ++ rows_of (o ∷ options)) (w ++ tail)) (sym is) both.0
  | inr is ↦ subst (λ (w : List Text). Passes (at rows (pend p)) (after rows p ++ rows_of (o ∷ options)) (w ++ tail)) (sym is) both.1
]

pub options_pass : (options : List MakeOption) (tail : List Text) → IsEnding tail → ArePlain (counts_of options) → ArePlain (sessions_of options) → PassAll options tail
unfolding rows_of
options_pass [] tail ending counts seats words rows p written fresh unused =
    subst (λ (w : List Text). Passes (at rows (pend p)) (after rows p ++ []) (w ++ tail)) (sym written) (none_passes tail rows p ending fresh)
options_pass (count value ∷ options) tail ending counts seats words rows p written fresh unused =
    written_passes (count value) options tail words written.0 rows p written.1
    (valued_passes true value options tail written.0 rows p counts.0 (options_pass options tail ending counts.1 seats) written.2 fresh unused.0 unused.0 unused.1)
options_pass (sessions value ∷ options) tail ending counts seats words rows p written fresh unused =
    written_passes (sessions value) options tail words written.0 rows p written.1
    (valued_passes false value options tail written.0 rows p seats.0 (options_pass options tail ending counts seats.1) written.2 fresh unused.0 unused.0 unused.1)
options_pass (text ∷ options) tail ending counts seats words rows p written fresh unused =
    let pass = last_is text options (after rows p) (at rows (pend p)) (codes "--text" ∷ (written.0 ++ tail))
    (use_passes text (codes "--text") (written.0 ++ tail) rows p ((after rows p ++ row text) ++ rows_of options)
    (text_turn (written.0 ++ tail) rows (pend p)) (text_end (written.0 ++ tail) rows (pend p)) fresh unused.0
    (options_pass options tail ending counts seats written.0 (after rows p ++ row text) None written.2 tt unused.1)) in
    written_passes text options tail words written.0 rows p written.1 (pass, pass)

-- ---- options that are given once are not there before
abbrev taken : Bool → ℕ
taken true = 1
taken false = 0

abbrev pub IsOnce : Text → List Row → ℕ → Type 0
IsOnce id rows n = taken (has_row id rows) + n ≤ 1

behind_own : (id : Text) (rows own : List Row) → has_row id own ≡ true → taken (has_row id (rows ++ own)) ≡ 1
behind_own id rows own is = ap taken (list_any-append _ rows own ∙ ap (λ (b : Bool). has_row id rows || b) is) ∙ by (has_row id rows)
  where
    by : (b : Bool) → taken (b || true) ≡ 1
    by true = refl
    by false = refl

behind_other : (id : Text) (rows own : List Row) → has_row id own ≡ false → taken (has_row id (rows ++ own)) ≡ taken (has_row id rows)
behind_other id rows own is = ap taken (list_any-append _ rows own ∙ ap (λ (b : Bool). has_row id rows || b) is) ∙ by (has_row id rows)
  where
    by : (b : Bool) → taken (b || false) ≡ taken b
    by true = refl
    by false = refl

not_taken : (b : Bool) (n : ℕ) → taken b + suc n ≤ 1 → b ≡ false
not_taken true n few = absurd (omega (arith, few))
not_taken false n few = refl

few : (b : Bool) → taken b + 0 ≤ 1
few true = omega arith
few false = omega arith

pub once_is_fresh : (options : List MakeOption) (rows : List Row) → IsOnce (codes "count") rows (length (counts_of options)) → IsOnce (codes "sessions") rows (length (sessions_of options))
    → IsOnce (codes "text") rows (marks_of options) → AreFresh rows options
unfolding clap_on_literals
once_is_fresh [] rows counts seats marks = tt
once_is_fresh (count value ∷ options) rows counts seats marks =
    let own = behind_own (codes "count") rows (row (count value)) refl in
    let second = behind_other (codes "sessions") rows (row (count value)) refl in
    let third = behind_other (codes "text") rows (row (count value)) refl in
    (not_taken (has_row (codes "count") rows) (length (counts_of options)) counts, once_is_fresh options (rows ++ row (count value)) (omega (arith, own, counts)) (omega (arith, second, seats)) (omega (arith, third, marks)))
once_is_fresh (sessions value ∷ options) rows counts seats marks =
    let own = behind_own (codes "sessions") rows (row (sessions value)) refl in
    let second = behind_other (codes "count") rows (row (sessions value)) refl in
    let third = behind_other (codes "text") rows (row (sessions value)) refl in
    (not_taken (has_row (codes "sessions") rows) (length (sessions_of options)) seats, once_is_fresh options (rows ++ row (sessions value)) (omega (arith, second, counts)) (omega (arith, own, seats)) (omega (arith, third, marks)))
once_is_fresh (text ∷ options) rows counts seats marks =
    let own = behind_own (codes "text") rows (row text) refl in
    let second = behind_other (codes "count") rows (row text) refl in
    let third = behind_other (codes "sessions") rows (row text) refl in
    let least : taken (has_row (codes "text") rows) + suc (marks_of options) ≤ 1 = omega (arith, marks) in
    (not_taken (has_row (codes "text") rows) (marks_of options) least, once_is_fresh options (rows ++ row text) (omega (arith, second, counts)) (omega (arith, third, seats)) (omega (arith, own, marks)))

pub fresh_is_once : (options : List MakeOption) (rows : List Row) → AreFresh rows options → IsOnce (codes "count") rows (length (counts_of options)) × IsOnce (codes "sessions") rows (length (sessions_of options))
    × IsOnce (codes "text") rows (marks_of options)
unfolding clap_on_literals
fresh_is_once [] rows fresh = (few (has_row (codes "count") rows), few (has_row (codes "sessions") rows), few (has_row (codes "text") rows))
fresh_is_once (count value ∷ options) rows fresh =
    let rest = fresh_is_once options (rows ++ row (count value)) fresh.1 in
    let own = behind_own (codes "count") rows (row (count value)) refl in
    let second = behind_other (codes "sessions") rows (row (count value)) refl in
    let third = behind_other (codes "text") rows (row (count value)) refl in
    let free = ap taken fresh.0 in
    (omega (arith, own, free, rest.0), omega (arith, second, rest.1), omega (arith, third, rest.2))
fresh_is_once (sessions value ∷ options) rows fresh =
    let rest = fresh_is_once options (rows ++ row (sessions value)) fresh.1 in
    let own = behind_own (codes "sessions") rows (row (sessions value)) refl in
    let second = behind_other (codes "count") rows (row (sessions value)) refl in
    let third = behind_other (codes "text") rows (row (sessions value)) refl in
    let free = ap taken fresh.0 in
    (omega (arith, second, rest.0), omega (arith, own, free, rest.1), omega (arith, third, rest.2))
fresh_is_once (text ∷ options) rows fresh =
    let rest = fresh_is_once options (rows ++ row text) fresh.1 in
    let own = behind_own (codes "text") rows (row text) refl in
    let second = behind_other (codes "count") rows (row text) refl in
    let third = behind_other (codes "sessions") rows (row text) refl in
    let free = ap taken fresh.0 in
    (omega (arith, second, rest.0), omega (arith, third, rest.1), omega (arith, own, free, rest.2))
