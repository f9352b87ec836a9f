-- What each word behind `make` is.
use Rattle.std.proofs.Common.{◌≡◌, ◌≢◌, ◌⊎◌, ◌||◌, Bool, true, false, List, [], ◌∷◌, ◌++◌, Option, Some, None, refl, sym, ap, ◌∙◌, codes, inl, inr}
use Rattle.std.specs.Prelude.{if◌then◌else◌, is_some}
use Rattle.std.specs.Str.{bytes_eq}
use Rattle.clap.specs.Kinds.{Kinds, or_else}
use Rattle.clap.specs.Lexer.{long_of}
use Rattle.clap.specs.Faults.{flag_word_fault, long_fault, react_fault, step_fault, turn_fault}
use Rattle.clap.specs.Walk.{Held, Row, Rule, Text, arg_by_long, idle, long_or_other, trailing}
use Rattle.clap.proofs.OnLiterals.{clap_on_literals}
use Rattle.erm_command_line.proofs.Levels.{decide, help_refused, holding, make, or_first, rule_at, same_text, shape, unflagged_refused}
use Rattle.erm_command_line.proofs.LongWords.{long_spelled, spelling}
use Rattle.erm_command_line.proofs.MakeOptions.{name_of, rules}
use Rattle.erm_command_line.proofs.MakeWalk.{apart_word, at, joined_word}

-- the end of options, the name of an option, alone or with its value, the mark for text, or refused
abbrev pub Class : Text → Type 0
Class word = (word ≡ codes "--") ⊎ ((b : Bool) × (word ≡ apart_word b)) ⊎ ((b : Bool) × (value : Text) × (word ≡ joined_word b value)) ⊎ (word ≡ codes "--text")
    ⊎ ((rows : List Row) (p : Option (Text × List Text)) → turn_fault (shape make) [] (at rows p) word ≢ [])

abbrev turn_at : Text → List Row → Option (Text × List Text) → Bool → Option (Text × Option Text) → Kinds
turn_at word rows p ends long = or_else (if ends then [] else flag_word_fault rules false long word (holding rows p))
    (step_fault (shape make) 1 (if ends then (holding rows p, trailing 1) else long_or_other rules idle word long (holding rows p)).0 (if ends then (holding rows p, trailing 1) else long_or_other rules idle word long (holding rows p)).1)

turn_is : (word : Text) (rows : List Row) (p : Option (Text × List Text)) → turn_fault (shape make) [] (at rows p) word ≡ turn_at word rows p (bytes_eq word (codes "--")) (long_of word)
unfolding clap_on_literals
turn_is word rows p = refl

turn_of : (word : Text) (rows : List Row) (p : Option (Text × List Text)) (long : Option (Text × Option Text)) → bytes_eq word (codes "--") ≡ false → long_of word ≡ long
    → turn_fault (shape make) [] (at rows p) word ≡ turn_at word rows p false long
turn_of word rows p long other is = turn_is word rows p ∙ ap (λ (e : Bool). turn_at word rows p e (long_of word)) other ∙ ap (λ (l : Option (Text × Option Text)). turn_at word rows p false l) is

-- the option that has the name
abbrev rule_named : Bool → Bool → Bool → Bool → Option Rule
rule_named a b c d = if a then Some (rule_at 0 rules) else (if b then Some (rule_at 1 rules) else (if c then Some (rule_at 2 rules) else (if d then Some (rule_at 3 rules) else None)))

named_is : (name : Text) → arg_by_long rules name
    ≡ rule_named (bytes_eq (codes "count") name || false) (bytes_eq (codes "sessions") name || false) (bytes_eq (codes "text") name || false) (bytes_eq (codes "help") name || false)
unfolding clap_on_literals
named_is name = refl

-- other options, and the mark for text with a value, are refused
refused_at : (c d : Bool) (value : Option Text) (h : Held) → (c ≡ true → is_some value ≡ true) → long_fault rules false (rule_named false false c d) value h ≢ []
unfolding clap_on_literals
refused_at true d None h has = absurd (let bad : false ≡ true = has refl in cc)
refused_at true d (Some v) h has = λ e. cc
refused_at false true None h has = help_refused rules h
refused_at false true (Some v) h has = λ e. cc
refused_at false false value h has = λ e. cc

or_false : (b : Bool) → b ≡ false → (b || false) ≡ false
or_false true is = is
or_false false is = refl

refused_named : (name : Text) (value : Option Text) (h : Held) → bytes_eq (codes "count") name ≡ false → bytes_eq (codes "sessions") name ≡ false → ((bytes_eq (codes "text") name || false) ≡ true → is_some value ≡ true)
    → long_fault rules false (arg_by_long rules name) value h ≢ []
refused_named name value h no_count no_sessions has = λ e.
    refused_at (bytes_eq (codes "text") name || false) (bytes_eq (codes "help") name || false) value h has
    (sym (ap (λ (o : Option Rule). long_fault rules false o value h) (named_is name
    ∙ ap (λ (b : Bool). rule_named b (bytes_eq (codes "sessions") name || false) (bytes_eq (codes "text") name || false) (bytes_eq (codes "help") name || false)) (or_false _ no_count)
    ∙ ap (λ (b : Bool). rule_named false b (bytes_eq (codes "text") name || false) (bytes_eq (codes "help") name || false)) (or_false _ no_sessions))) ∙ e)

refused_word : (word name : Text) (value : Option Text) → bytes_eq word (codes "--") ≡ false → long_of word ≡ Some (name, value) → bytes_eq (codes "count") name ≡ false → bytes_eq (codes "sessions") name ≡ false
    → ((bytes_eq (codes "text") name || false) ≡ true → is_some value ≡ true) → (rows : List Row) (p : Option (Text × List Text)) → turn_fault (shape make) [] (at rows p) word ≢ []
refused_word word name value other is no_count no_sessions has rows p = λ e.
    or_first (flag_word_fault rules false (Some (name, value)) word (holding rows p)) _ (refused_named name value (holding rows p) no_count no_sessions has) (sym (turn_of word rows p (Some (name, value)) other is) ∙ e)

-- the name of an option that has a value, alone or joined to it
valued : (b : Bool) (word name : Text) (value : Option Text) → name_of b ≡ name → word ≡ 45 ∷ 45 ∷ spelling name value → Class word
valued true word name None same is = inr (inl (true, is ∙ ap (λ (n : Text). 45 ∷ 45 ∷ n) (sym same)))
valued false word name None same is = inr (inl (false, is ∙ ap (λ (n : Text). 45 ∷ 45 ∷ n) (sym same)))
valued true word name (Some v) same is = inr (inr (inl (true, v, is ∙ ap (λ (n : Text). 45 ∷ 45 ∷ n ++ 61 ∷ v) (sym same))))
valued false word name (Some v) same is = inr (inr (inl (false, v, is ∙ ap (λ (n : Text). 45 ∷ 45 ∷ n ++ 61 ∷ v) (sym same))))

-- the mark for text
marked : (word name : Text) (value : Option Text) → bytes_eq word (codes "--") ≡ false → long_of word ≡ Some (name, value) → bytes_eq (codes "count") name ≡ false → bytes_eq (codes "sessions") name ≡ false
    → codes "text" ≡ name → Class word
marked word name None other is no_count no_sessions same = inr (inr (inr (inl (long_spelled word name None is ∙ ap (λ (n : Text). 45 ∷ 45 ∷ n) (sym same)))))
marked word name (Some v) other is no_count no_sessions same = inr (inr (inr (inr (refused_word word name (Some v) other is no_count no_sessions (λ e. refl)))))

by_name : (word name : Text) (value : Option Text) → bytes_eq word (codes "--") ≡ false → long_of word ≡ Some (name, value) → Class word
by_name word name value other is = elim (decide (bytes_eq (codes "count") name)) [
  | inl same ↦ valued true word name value (same_text (codes "count") name same) (long_spelled word name value is)
  | inr no_count ↦ elim (decide (bytes_eq (codes "sessions") name)) [
    | inl same ↦ valued false word name value (same_text (codes "sessions") name same) (long_spelled word name value is)
    | inr no_sessions ↦ elim (decide (bytes_eq (codes "text") name)) [
      | inl same ↦ marked word name value other is no_count no_sessions (same_text (codes "text") name same)
      | inr no_text ↦ inr (inr (inr (inr (refused_word word name value other is no_count no_sessions (λ e. absurd (let bad : false ≡ true = sym (or_false _ no_text) ∙ e in cc))))))
    ]
  ]
]

by_long : (word : Text) (long : Option (Text × Option Text)) → bytes_eq word (codes "--") ≡ false → long_of word ≡ long → Class word
by_long word None other is = inr (inr (inr (inr (λ rows p e. unflagged_refused make word rows p (sym (turn_of word rows p None other is) ∙ e)))))
by_long word (Some q) other is = by_name word q.0 q.1 other is

pub classify : (word : Text) → Class word
classify word = elim (decide (bytes_eq word (codes "--"))) [
  | inl is ↦ inl (same_text word (codes "--") is)
  | inr other ↦ by_long word (long_of word) other refl
]
