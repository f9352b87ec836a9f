-- The walk of the library over the words behind `make`.
use Rattle.std.proofs.Common.{◌≡◌, ◌≢◌, ◌⊎◌, ◌==◌, ◌||◌, ℕ, Bool, true, false, List, [], ◌∷◌, ◌++◌, length, Option, Some, None, append-nil, append_assoc, refl, sym, ap, ap₂, ◌∙◌, codes, inl, inr, subst}
use Rattle.std.specs.Prelude.{if◌then◌else◌, is_some, slice_get, IsSome}
use Rattle.std.specs.Bool.{⊤}
use Rattle.std.specs.List.{fold}
use Rattle.std.specs.Option.{option_map_or}
use Rattle.std.specs.Str.{bytes_eq, chars}
use Rattle.clap.specs.Kinds.{Kinds, or_else}
use Rattle.clap.specs.Lexer.{long_of, short_of}
use Rattle.clap.specs.Faults.{bundle_fault, bundle_step_fault, flag_word_fault, flags_fault, long_fault, option_fault, react_fault, settle_fault, short_fault, step_fault, turn_fault, walk_fault}
use Rattle.clap.specs.Walk.{Held, Outcome, Row, Rule, Step, Text, Waiting, Walk, after_step, arg_by_long, arg_by_short, attached_value, bundle_met, bundle_step, after_flag, idle, long_or_other, next, option, plain, settled_rows, short_or_plain, short_word, takes_values, trailing, used, walked}
use Rattle.clap.specs.declared.error.kind.ErrorKind.TheVariants as kind
use Rattle.clap.proofs.OnLiterals.{clap_on_literals}
use Rattle.erm_command_line.specs.CommandLine.{AreWritten, MakeOption, apart, count, joined, sessions, text}
use Rattle.erm_command_line.proofs.Levels.{decide, help, help_refused, holding, make, or_both, or_first, rule_at, same_text, shape, trailing_refused, unflagged_refused, walking}
use Rattle.erm_command_line.proofs.MakeOptions.{AreFresh, IsFresh, Pending, after, fresh_is_used, fresh_settles, id_of, name_of, option_of, pend, pending_kinds, row, rows_of, rule_of, rules, settles, text_rule, unvalued, use_is_fresh, use_kinds, use_of, used_last}
use Rattle.erm_command_line.proofs.LongWords.{long_spelled}

-- ---- where the walk stands: between two options, or behind the name of one that has a value
abbrev pub at : List Row → Option (Text × List Text) → Walk
at rows p = walking (holding rows p) idle false

abbrev pub wanting : Bool → List Row → Walk
wanting b rows = walking (holding rows (Some (name_of b, []))) (option (name_of b)) false

abbrev pub faults : Walk → List Text → Kinds
faults w words = walk_fault (shape make) [] w words

abbrev pub end : Walk → List Text → Held
end w words = (fold (walked rules []) w words).held

abbrev pub end_kinds : Held → Kinds
end_kinds h = settle_fault rules false h

-- the word that names an option which has a value, and the one that has its value too
abbrev pub apart_word : Bool → Text
apart_word true = codes "--count"
apart_word false = codes "--sessions"

abbrev pub joined_word : Bool → Text → Text
joined_word true value = codes "--count=" ++ value
joined_word false value = codes "--sessions=" ++ value

-- ---- the turn of each word
abbrev pub reacts : MakeOption → List Row → Option (Text × List Text) → Kinds
reacts o rows p = or_else (pending_kinds rows p) (use_kinds o (settled_rows rules p rows))

pub apart_turn : (b : Bool) (rest : List Text) (rows : List Row) (p : Option (Text × List Text))
    → faults (at rows p) (apart_word b ∷ rest) ≡ or_else (or_else (pending_kinds rows p) []) (faults (wanting b (settled_rows rules p rows)) rest)
unfolding clap_on_literals
apart_turn true rest rows p = refl
apart_turn false rest rows p = refl

pub apart_end : (b : Bool) (rest : List Text) (rows : List Row) (p : Option (Text × List Text)) → end (at rows p) (apart_word b ∷ rest) ≡ end (wanting b (settled_rows rules p rows)) rest
unfolding clap_on_literals
apart_end true rest rows p = refl
apart_end false rest rows p = refl

pub joined_turn : (b : Bool) (value : Text) (rest : List Text) (rows : List Row) (p : Option (Text × List Text))
    → faults (at rows p) (joined_word b value ∷ rest) ≡ or_else (or_else (reacts (option_of b value) rows p) []) (faults (at (use_of (option_of b value) (settled_rows rules p rows)) None) rest)
unfolding clap_on_literals
joined_turn true value rest rows p = refl
joined_turn false value rest rows p = refl

pub joined_end : (b : Bool) (value : Text) (rest : List Text) (rows : List Row) (p : Option (Text × List Text))
    → end (at rows p) (joined_word b value ∷ rest) ≡ end (at (use_of (option_of b value) (settled_rows rules p rows)) None) rest
unfolding clap_on_literals
joined_end true value rest rows p = refl
joined_end false value rest rows p = refl

pub text_turn : (rest : List Text) (rows : List Row) (p : Option (Text × List Text))
    → faults (at rows p) (codes "--text" ∷ rest) ≡ or_else (or_else (reacts text rows p) []) (faults (at (use_of text (settled_rows rules p rows)) None) rest)
unfolding clap_on_literals
text_turn rest rows p = refl

pub text_end : (rest : List Text) (rows : List Row) (p : Option (Text × List Text)) → end (at rows p) (codes "--text" ∷ rest) ≡ end (at (use_of text (settled_rows rules p rows)) None) rest
unfolding clap_on_literals
text_end rest rows p = refl

-- ---- the value of an option, as a word of its own
abbrev pub wanted : Bool → List Row → Held
wanted b rows = holding rows (Some (name_of b, []))

-- an option without its value keeps what follows from being a flag
long_wanted : (o : Option Rule) (value : Option Text) (h : Held) → settle_fault rules false h ≢ [] → long_fault rules false o value h ≢ []
long_wanted None value h unsettled = λ e. cc
long_wanted (Some a) value h unsettled = by (takes_values a) value
  where
    by : (b : Bool) (value : Option Text) → (if b then option_fault rules false a value h else (if is_some value then kind.TooManyValues ∷ [] else react_fault rules false a [] h)) ≢ []
    by true None = unsettled
    by true (Some v) = or_first _ _ unsettled
    by false None = or_first _ _ unsettled
    by false (Some v) = λ e. cc

short_wanted : (o : Option Rule) (rest : Text) (h : Held) (more : Held → Kinds) → settle_fault rules false h ≢ [] → short_fault rules false o rest h more ≢ []
short_wanted None rest h more unsettled = λ e. cc
short_wanted (Some a) rest h more unsettled = by (takes_values a) (attached_value rest)
  where
    by : (b : Bool) (value : Option Text) → (if b then option_fault rules false a value h else or_else (react_fault rules false a [] h) (more (Rattle.clap.specs.Walk.reacted rules a [] h))) ≢ []
    by true None = unsettled
    by true (Some v) = or_first _ _ unsettled
    by false v = or_first _ _ (or_first _ _ unsettled)

-- what is held behind the value
abbrev valued : Bool → Text → List Row → Held × Step
valued b word rows = (holding rows (Some (name_of b, word ∷ [])), next idle)

bundle_value : (b : Bool) (word flags : Text) (rows : List Row) (o : Option ℕ) (next_fault : Text → ℕ → Held → Kinds) (next_met : Text → ℕ → Outcome → Held → Held × Outcome)
    → bundle_step_fault rules false o flags 0 (wanted b rows) next_fault ≡ []
    → let met = bundle_step rules o flags 0 plain (wanted b rows) next_met in after_flag rules (option (name_of b)) word met.0 met.1 ≡ valued b word rows
unfolding clap_on_literals
bundle_value true word flags rows None next_fault next_met none = refl
bundle_value false word flags rows None next_fault next_met none = refl
bundle_value b word flags rows (Some x) next_fault next_met none = absurd (short_wanted (arg_by_short rules x) _ (wanted b rows) _ (unvalued b rows) none)

flags_value : (b : Bool) (word flags : Text) (rows : List Row) → bundle_fault rules false flags (wanted b rows) ≡ [] → short_word rules (option (name_of b)) word flags (wanted b rows) ≡ valued b word rows
unfolding clap_on_literals
flags_value true word [] rows none = refl
flags_value false word [] rows none = refl
flags_value b word (x ∷ xs) rows none = bundle_value b word (x ∷ xs) rows (slice_get (chars (x ∷ xs)) 0) (flags_fault rules false (length xs)) (bundle_met rules (length xs)) none

short_value : (b : Bool) (word : Text) (flags : Option Text) (rows : List Row) → option_map_or (λ flags. bundle_fault rules false flags (wanted b rows)) flags [] ≡ []
    → short_or_plain rules (option (name_of b)) word flags (wanted b rows) ≡ valued b word rows
unfolding clap_on_literals
short_value true word None rows none = refl
short_value false word None rows none = refl
short_value b word (Some flags) rows none = flags_value b word flags rows none

value_met : (b : Bool) (word : Text) (long : Option (Text × Option Text)) (rows : List Row) → flag_word_fault rules false long word (wanted b rows) ≡ []
    → long_or_other rules (option (name_of b)) word long (wanted b rows) ≡ valued b word rows
value_met b word None rows none = short_value b word (short_of word) rows none
value_met b word (Some p) rows none = absurd (long_wanted (arg_by_long rules p.0) p.1 (wanted b rows) (unvalued b rows) none)

-- the walk behind the value
abbrev met_at : Bool → Text → List Row → Bool → Held × Step
met_at b word rows ends = if ends then (wanted b rows, trailing 1) else long_or_other rules (option (name_of b)) word (long_of word) (wanted b rows)

valued_walk : (b : Bool) (word : Text) (rows : List Row) → after_step rules word (wanting b rows) (valued b word rows).0 (valued b word rows).1 ≡ at rows (Some (name_of b, word ∷ []))
valued_walk b word rows = refl

value_walked : (b : Bool) (word : Text) (rows : List Row) → bytes_eq word (codes "--") ≡ false → flag_word_fault rules false (long_of word) word (wanted b rows) ≡ []
    → walked rules [] (wanting b rows) word ≡ at rows (Some (name_of b, word ∷ []))
unfolding clap_on_literals
value_walked b word rows other none =
    ap (λ (e : Bool). after_step rules word (wanting b rows) (met_at b word rows e).0 (met_at b word rows e).1) other
    ∙ ap (λ (met : Held × Step). after_step rules word (wanting b rows) met.0 met.1) (value_met b word (long_of word) rows none)

abbrev turn_at : Bool → Text → List Row → Bool → Kinds
turn_at b word rows ends = or_else (if ends then [] else flag_word_fault rules false (long_of word) word (wanted b rows)) (step_fault (shape make) 1 (met_at b word rows ends).0 (met_at b word rows ends).1)

value_turn : (b : Bool) (word : Text) (rows : List Row) → turn_fault (shape make) [] (wanting b rows) word ≡ turn_at b word rows (bytes_eq word (codes "--"))
unfolding clap_on_literals
value_turn b word rows = refl

value_passes : (b : Bool) (word : Text) (rows : List Row) → bytes_eq word (codes "--") ≡ false → flag_word_fault rules false (long_of word) word (wanted b rows) ≡ [] → turn_fault (shape make) [] (wanting b rows) word ≡ []
value_passes b word rows other none =
    value_turn b word rows ∙ ap (turn_at b word rows) other
    ∙ ap₂ (λ (k : Kinds) (met : Held × Step). or_else k (step_fault (shape make) 1 met.0 met.1)) none (value_met b word (long_of word) rows none)

pub value_faults : (b : Bool) (word : Text) (rest : List Text) (rows : List Row) → bytes_eq word (codes "--") ≡ false → flag_word_fault rules false (long_of word) word (wanted b rows) ≡ []
    → faults (wanting b rows) (word ∷ rest) ≡ faults (at rows (Some (name_of b, word ∷ []))) rest
unfolding clap_on_literals
value_faults b word rest rows other none =
    ap₂ (λ (k : Kinds) (w : Walk). or_else k (faults w rest)) (value_passes b word rows other none) (value_walked b word rows other none)

pub value_end : (b : Bool) (word : Text) (rest : List Text) (rows : List Row) → bytes_eq word (codes "--") ≡ false → flag_word_fault rules false (long_of word) word (wanted b rows) ≡ []
    → end (wanting b rows) (word ∷ rest) ≡ end (at rows (Some (name_of b, word ∷ []))) rest
unfolding clap_on_literals
value_end b word rest rows other none = ap (λ (w : Walk). end w rest) (value_walked b word rows other none)

-- the fault of the word itself
pub value_flag : (b : Bool) (word : Text) (rows : List Row) → bytes_eq word (codes "--") ≡ false → turn_fault (shape make) [] (wanting b rows) word ≡ [] → flag_word_fault rules false (long_of word) word (wanted b rows) ≡ []
value_flag b word rows other none = (or_both _ _ (sym (ap (turn_at b word rows) other) ∙ sym (value_turn b word rows) ∙ none)).0
