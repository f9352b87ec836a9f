-- The levels of the command line as built, and the words that none of them takes.
use Rattle.std.proofs.Common.{◌≡◌, ◌≢◌, ◌⊎◌, ◌||◌, ℕ, zero, suc, Bool, true, false, List, [], ◌∷◌, length, Option, Some, None, refl, arith, codes, inl, inr}
use Rattle.std.specs.Prelude.{if◌then◌else◌, slice_get}
use Rattle.std.specs.Option.{option_map_or}
use Rattle.std.specs.Str.{bytes_eq, chars}
use Rattle.std.proofs.lemmas.Slice.Eq.{bytes_eq-Decides}
use Rattle.clap.specs.Kinds.{Kinds, or_else}
use Rattle.clap.specs.Lexer.{long_of, short_of}
use Rattle.clap.specs.Simple.{Shape, built, help_rule, names_of}
use Rattle.clap.specs.Faults.{bundle_fault, bundle_step_fault, flag_word_fault, flags_fault, react_fault, short_fault, step_fault, walk_fault}
use Rattle.clap.specs.Walk.{Held, Names, Outcome, Rule, Text, Waiting, Walk, after_flag, arg_by_short, bundle_met, bundle_step, idle, long_or_other, plain, short_or_plain, short_word, trailing, value, walk_from}
use Rattle.clap.specs.Walk.{Row}
use Rattle.clap.specs.declared.error.kind.ErrorKind.TheVariants as kind
use Rattle.clap.proofs.OnLiterals.{clap_on_literals}
use Rattle.erm_command_line.specs.CommandLine.{command_line}

-- ---- one after the other
pub or_first : (a b : Kinds) → a ≢ [] → or_else a b ≢ []
or_first [] b some = λ e. some refl
or_first (k ∷ ks) b some = some

pub or_second : (a b : Kinds) → b ≢ [] → or_else a b ≢ []
or_second [] b some = some
or_second (k ∷ ks) b some = λ e. cc

pub or_both : (a b : Kinds) → or_else a b ≡ [] → (a ≡ []) × (b ≡ [])
or_both [] b none = (refl, none)
or_both (k ∷ ks) b none = absurd (cc)

pub decide : (b : Bool) → (b ≡ true) ⊎ (b ≡ false)
decide true = inl refl
decide false = inr refl

pub same_text : (a b : Text) → bytes_eq a b ≡ true → a ≡ b
same_text a b is = grind (arith, bytes_eq-Decides a b)

-- ---- the levels: the program's own, that of a command without options, and that of `make`
pub data Level : Type 0 where
  top : Level
  leaf : Text → Level
  make : Level

abbrev shape_at : ℕ → List Shape → Shape
shape_at n [] = (built command_line).top
shape_at zero (s ∷ ss) = s
shape_at (suc n) (s ∷ ss) = shape_at n ss

abbrev pub shape : Level → Shape
shape top = (built command_line).top
shape (leaf name) = record (shape_at 0 (built command_line).subs) { name = name }
shape make = shape_at 2 (built command_line).subs

abbrev pub names : Names
names = names_of (built command_line)

abbrev pub rule_at : ℕ → List Rule → Rule
rule_at n [] = help_rule
rule_at zero (a ∷ rest) = a
rule_at (suc n) (a ∷ rest) = rule_at n rest

-- the flag that asks for help
abbrev pub help : Rule
help = rule_at 0 (shape top).rules

-- what is held between two words
abbrev pub holding : List Row → Option (Text × List Text) → Held
holding rows pending = record { rows = rows; pending = pending; skip = 0 }

-- where the walk stands between two words
abbrev pub walking : Held → Waiting → Bool → Walk
walking h waiting ended = record { held = h; waiting = waiting; position = 1; is_trailing = ended; stopped = None }

-- ---- words that are refused
pub help_refused : (c : List Rule) (h : Held) → react_fault c false help [] h ≢ []
unfolding clap_on_literals
help_refused c h = or_second _ (kind.DisplayHelp ∷ []) (λ e. cc)

short_at : (c : List Rule) (b : Bool) (rest : Text) (h : Held) (next : Held → Kinds) → short_fault c false (if b then Some help else None) rest h next ≢ []
unfolding clap_on_literals
short_at c true rest h next = or_first _ _ (help_refused c h)
short_at c false rest h next = λ e. cc

short_refused : (l : Level) (x : ℕ) (rest : Text) (h : Held) (next : Held → Kinds) → short_fault (shape l).rules false (arg_by_short (shape l).rules x) rest h next ≢ []
unfolding clap_on_literals
short_refused top x rest h next = short_at (shape top).rules _ rest h next
short_refused (leaf name) x rest h next = short_at (shape (leaf name)).rules _ rest h next
short_refused make x rest h next = short_at (shape make).rules _ rest h next

-- a word that is no flag is one too many: no positional takes it
pub stray : (l : Level) (h : Held) → step_fault (shape l) 1 h value ≢ []
stray top h = λ e. cc
stray (leaf name) h = λ e. cc
stray make h = λ e. cc

bundle_refused : (l : Level) (word flags : Text) (h : Held) (o : Option ℕ) (next_fault : Text → ℕ → Held → Kinds) (next_met : Text → ℕ → Outcome → Held → Held × Outcome)
    → let met = bundle_step (shape l).rules o flags 0 plain h next_met in
    let step = after_flag (shape l).rules idle word met.0 met.1 in
    or_else (bundle_step_fault (shape l).rules false o flags 0 h next_fault) (step_fault (shape l) 1 step.0 step.1) ≢ []
bundle_refused l word flags h None next_fault next_met = stray l h
bundle_refused l word flags h (Some x) next_fault next_met = or_first _ _ (short_refused l x _ h _)

flags_refused : (l : Level) (word flags : Text) (rows : List Row) (p : Option (Text × List Text))
    → or_else (bundle_fault (shape l).rules false flags (holding rows p)) (step_fault (shape l) 1 (short_word (shape l).rules idle word flags (holding rows p)).0 (short_word (shape l).rules idle word flags (holding rows p)).1) ≢ []
unfolding clap_on_literals
flags_refused l word [] rows p = stray l (holding rows p)
flags_refused l word (x ∷ xs) rows p = bundle_refused l word (x ∷ xs) (holding rows p) (slice_get (chars (x ∷ xs)) 0) (flags_fault (shape l).rules false (length xs)) (bundle_met (shape l).rules (length xs))

short_word_refused : (l : Level) (word : Text) (flags : Option Text) (rows : List Row) (p : Option (Text × List Text))
    → or_else (option_map_or (λ flags. bundle_fault (shape l).rules false flags (holding rows p)) flags [])
    (step_fault (shape l) 1 (short_or_plain (shape l).rules idle word flags (holding rows p)).0 (short_or_plain (shape l).rules idle word flags (holding rows p)).1) ≢ []
short_word_refused l word None rows p = stray l (holding rows p)
short_word_refused l word (Some flags) rows p = flags_refused l word flags rows p

-- a word that is no long flag
pub unflagged_refused : (l : Level) (word : Text) (rows : List Row) (p : Option (Text × List Text)) → or_else (flag_word_fault (shape l).rules false None word (holding rows p))
    (step_fault (shape l) 1 (long_or_other (shape l).rules idle word None (holding rows p)).0 (long_or_other (shape l).rules idle word None (holding rows p)).1) ≢ []
unflagged_refused l word rows p = short_word_refused l word (short_of word) rows p

-- behind `--` each word is one too many
pub trailing_refused : (l : Level) (list : Names) (h : Held) (waiting : Waiting) (word : Text) (rest : List Text) → walk_fault (shape l) list (walking h waiting true) (word ∷ rest) ≢ []
unfolding clap_on_literals
trailing_refused l list h waiting word rest = or_first _ _ (stray l h)
