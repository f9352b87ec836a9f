-- The first word behind the program's name names a command, and the library goes on at that command's level.
use Rattle.std.proofs.Common.{◌≡◌, ◌≢◌, ◌⊎◌, ◌||◌, ℕ, Bool, true, false, List, [], ◌∷◌, ◌++◌, Option, Some, None, append-nil, append_assoc, refl, sym, ap, ap₂, ◌∙◌, codes, inl, inr, subst}
use Rattle.std.specs.Prelude.{if◌then◌else◌, is_some}
use Rattle.std.specs.List.{find, fold}
use Rattle.std.specs.Option.{option_map}
use Rattle.std.specs.Str.{bytes_eq}
use Rattle.clap.specs.Kinds.{Kinds, or_else}
use Rattle.clap.specs.Lexer.{long_of}
use Rattle.clap.specs.Simple.{Shape, built, entered}
use Rattle.clap.specs.Faults.{built_fault, check_fault, defaults_fault, entered_fault, flag_word_fault, level_fault, long_fault, other_fault, settle_fault, step_fault, turn_fault, walk_fault}
use Rattle.clap.specs.Walk.{Held, Row, Rule, Text, Walk, answers_to, arg_by_long, finished, idle, long_or_other, nothing_held, rows_after, settled, subcommand_or_other, trailing, walk_from, walked}
use Rattle.clap.specs.Words.{subcommand_of}
use Rattle.clap.proofs.OnLiterals.{clap_on_literals}
use Rattle.erm_command_line.specs.CommandLine.{command_line, word_of}
use Rattle.erm_command_line.specs.declared.command.Command.{Command}
use Rattle.erm_command_line.specs.declared.command.Command.TheVariants.{Run, Threads, Recover, Audit, Checkpoint, Ship, Follow, Replica, Make}
use Rattle.erm_command_line.proofs.Levels.{Level, decide, help, help_refused, holding, leaf, make, names, or_both, or_first, same_text, shape, top, trailing_refused, unflagged_refused, walking}

-- ---- a word that is neither a command's nor `--`
long_at : (c : List Rule) (b : Bool) (v : Option Text) (h : Held) → long_fault c false (if b then Some help else None) v h ≢ []
unfolding clap_on_literals
long_at c true None h = help_refused c h
long_at c true (Some v) h = λ e. cc
long_at c false v h = λ e. cc

abbrev RefusesLong : Level → Type 0
RefusesLong l = (name : Text) (v : Option Text) (h : Held) → long_fault (shape l).rules false (arg_by_long (shape l).rules name) v h ≢ []

top_refuses : RefusesLong top
unfolding clap_on_literals
top_refuses name v h = long_at (shape top).rules _ v h

leaf_refuses : (word : Text) → RefusesLong (leaf word)
unfolding clap_on_literals
leaf_refuses word name v h = long_at (shape (leaf word)).rules _ v h

flag_refused : (l : Level) (word : Text) (long : Option (Text × Option Text)) → RefusesLong l → or_else (flag_word_fault (shape l).rules false long word (holding [] None))
    (step_fault (shape l) 1 (long_or_other (shape l).rules idle word long (holding [] None)).0 (long_or_other (shape l).rules idle word long (holding [] None)).1) ≢ []
flag_refused l word None refuses = unflagged_refused l word [] None
flag_refused l word (Some p) refuses = or_first _ _ (refuses p.0 p.1 (holding [] None))

word_at : (l : Level) (word : Text) (ends : Bool) → RefusesLong l → ends ≡ false → or_else (if ends then [] else flag_word_fault (shape l).rules false (long_of word) word (holding [] None))
    (step_fault (shape l) 1 (if ends then (holding [] None, trailing 1) else long_or_other (shape l).rules idle word (long_of word) (holding [] None)).0
    (if ends then (holding [] None, trailing 1) else long_or_other (shape l).rules idle word (long_of word) (holding [] None)).1) ≢ []
word_at l word true refuses is = absurd (cc)
word_at l word false refuses is = flag_refused l word (long_of word) refuses

-- ---- the words of a command without options
leaf_turn : (name word : Text) → bytes_eq word (codes "--") ≡ false → turn_fault (shape (leaf name)) [] (walk_from nothing_held) word ≢ []
leaf_turn name word other = word_at (leaf name) word (bytes_eq word (codes "--")) (leaf_refuses name) other

ends_alone : (name : Text) (rest : List Text) → walk_fault (shape (leaf name)) [] (walk_from nothing_held) (codes "--" ∷ rest) ≡ [] → rest ≡ []
unfolding clap_on_literals
ends_alone name [] none = refl
ends_alone name (word ∷ rest) none = absurd (trailing_refused (leaf name) [] (holding [] None) idle word rest none)

pub leaf_words : (name : Text) (rest : List Text) → walk_fault (shape (leaf name)) [] (walk_from nothing_held) rest ≡ [] → (rest ≡ []) ⊎ (rest ≡ codes "--" ∷ [])
unfolding clap_on_literals
leaf_words name [] none = inl refl
leaf_words name (word ∷ rest) none = elim (decide (bytes_eq word (codes "--"))) [
  | inl is ↦
      let same = same_text word (codes "--") is in
      inr (ap (λ (w : Text). w ∷ rest) same ∙ ap (λ (r : List Text). codes "--" ∷ r) (ends_alone name rest (subst (λ (w : Text). walk_fault (shape (leaf name)) [] (walk_from nothing_held) (w ∷ rest) ≡ []) same none)))
  | inr other ↦ absurd (leaf_turn name word other (or_both (turn_fault (shape (leaf name)) [] (walk_from nothing_held) word) (walk_fault (shape (leaf name)) [] (walked (shape (leaf name)).rules [] (walk_from nothing_held) word) rest) none).0)
]

-- ---- where the walk has met a command, it takes all words that follow for the command's
abbrev stopped : Text → List Text → Walk
stopped name so_far = record { held = nothing_held; waiting = idle; position = 1; is_trailing = false; stopped = Some (name, so_far) }

stopped_fault : (name : Text) (so_far rest : List Text) → walk_fault (shape top) names (stopped name so_far) rest ≡ []
unfolding clap_on_literals
stopped_fault name so_far [] = refl
stopped_fault name so_far (word ∷ rest) = stopped_fault name (so_far ++ word ∷ []) rest

stopped_walk : (name : Text) (so_far rest : List Text) → fold (walked (shape top).rules names) (stopped name so_far) rest ≡ stopped name (so_far ++ rest)
unfolding clap_on_literals
stopped_walk name so_far [] = ap (stopped name) (sym (append-nil so_far))
stopped_walk name so_far (word ∷ rest) = stopped_walk name (so_far ++ word ∷ []) rest ∙ ap (stopped name) (append_assoc so_far (word ∷ []) rest)

-- the level of a command
abbrev pub level_of : Command → Level
level_of (Make transactions seats as_text) = make
level_of command = leaf (word_of command)

abbrev left_kinds : Walk → Kinds
left_kinds w = or_else (entered_fault (built command_line) w.stopped) (or_else (settle_fault (shape top).rules false w.held)
    (or_else (defaults_fault (settled (shape top).rules w.held).rows (shape top).rules) (check_fault (shape top) (finished (shape top).rules w.held) (is_some (entered (built command_line) w.stopped)))))

abbrev pub command_kinds : Level → List Text → Kinds
command_kinds l rest = level_fault (shape l) [] nothing_held rest false []

or_nothing : (k : Kinds) → or_else k [] ≡ k
or_nothing [] = refl
or_nothing (k ∷ ks) = refl

pub command_fault : (command : Command) (rest : List Text) → built_fault (built command_line) nothing_held (word_of command ∷ rest) ≡ command_kinds (level_of command) rest
unfolding clap_on_literals
command_fault Run rest = ap₂ or_else (stopped_fault (codes "run") [] rest) (ap left_kinds (stopped_walk (codes "run") [] rest)) ∙ or_nothing _
command_fault Threads rest = ap₂ or_else (stopped_fault (codes "threads") [] rest) (ap left_kinds (stopped_walk (codes "threads") [] rest)) ∙ or_nothing _
command_fault Recover rest = ap₂ or_else (stopped_fault (codes "recover") [] rest) (ap left_kinds (stopped_walk (codes "recover") [] rest)) ∙ or_nothing _
command_fault Audit rest = ap₂ or_else (stopped_fault (codes "audit") [] rest) (ap left_kinds (stopped_walk (codes "audit") [] rest)) ∙ or_nothing _
command_fault Checkpoint rest = ap₂ or_else (stopped_fault (codes "checkpoint") [] rest) (ap left_kinds (stopped_walk (codes "checkpoint") [] rest)) ∙ or_nothing _
command_fault Ship rest = ap₂ or_else (stopped_fault (codes "ship") [] rest) (ap left_kinds (stopped_walk (codes "ship") [] rest)) ∙ or_nothing _
command_fault Follow rest = ap₂ or_else (stopped_fault (codes "follow") [] rest) (ap left_kinds (stopped_walk (codes "follow") [] rest)) ∙ or_nothing _
command_fault Replica rest = ap₂ or_else (stopped_fault (codes "replica") [] rest) (ap left_kinds (stopped_walk (codes "replica") [] rest)) ∙ or_nothing _
command_fault (Make transactions seats as_text) rest = ap₂ or_else (stopped_fault (codes "make") [] rest) (ap left_kinds (stopped_walk (codes "make") [] rest)) ∙ or_nothing _

-- what is found at that level
abbrev entered_by : Walk → Option (Text × List Row)
entered_by w = entered (built command_line) w.stopped

pub command_found : (command : Command) (name : Text) (rest : List Text) → subcommand_of command_line (name ∷ word_of command ∷ rest) ≡ Some (word_of command, rows_after (shape (level_of command)).rules [] rest)
unfolding clap_on_literals
command_found Run name rest = ap entered_by (stopped_walk (codes "run") [] rest)
command_found Threads name rest = ap entered_by (stopped_walk (codes "threads") [] rest)
command_found Recover name rest = ap entered_by (stopped_walk (codes "recover") [] rest)
command_found Audit name rest = ap entered_by (stopped_walk (codes "audit") [] rest)
command_found Checkpoint name rest = ap entered_by (stopped_walk (codes "checkpoint") [] rest)
command_found Ship name rest = ap entered_by (stopped_walk (codes "ship") [] rest)
command_found Follow name rest = ap entered_by (stopped_walk (codes "follow") [] rest)
command_found Replica name rest = ap entered_by (stopped_walk (codes "replica") [] rest)
command_found (Make transactions seats as_text) name rest = ap entered_by (stopped_walk (codes "make") [] rest)

-- ---- other first words
if_false : {X : Type 0} (b : Bool) (x y : X) → b ≡ false → (if b || false then x else y) ≡ y
if_false true x y is = absurd (cc)
if_false false x y is = refl

-- the word names no command, and does not ask for help
record IsUnnamed (word : Text) : Type 0 where
  no_run : bytes_eq (codes "run") word ≡ false
  no_threads : bytes_eq (codes "threads") word ≡ false
  no_make : bytes_eq (codes "make") word ≡ false
  no_recover : bytes_eq (codes "recover") word ≡ false
  no_audit : bytes_eq (codes "audit") word ≡ false
  no_checkpoint : bytes_eq (codes "checkpoint") word ≡ false
  no_ship : bytes_eq (codes "ship") word ≡ false
  no_follow : bytes_eq (codes "follow") word ≡ false
  no_replica : bytes_eq (codes "replica") word ≡ false
  no_help : bytes_eq (codes "help") word ≡ false

unmet : (word : Text) → IsUnnamed word → find (answers_to word) names ≡ None
unmet word is = if_false _ _ _ is.no_run ∙ if_false _ _ _ is.no_threads ∙ if_false _ _ _ is.no_make ∙ if_false _ _ _ is.no_recover ∙ if_false _ _ _ is.no_audit ∙ if_false _ _ _ is.no_checkpoint
    ∙ if_false _ _ _ is.no_ship ∙ if_false _ _ _ is.no_follow ∙ if_false _ _ _ is.no_replica ∙ if_false _ _ _ is.no_help

top_turn : (word : Text) → IsUnnamed word → bytes_eq word (codes "--") ≡ false → turn_fault (shape top) names (walk_from nothing_held) word ≢ []
top_turn word unnamed other =
    subst (λ (met : Option Text). or_else (other_fault (shape top) met word nothing_held)
    (step_fault (shape top) 1 (subcommand_or_other (shape top).rules met idle 1 word nothing_held).0 (subcommand_or_other (shape top).rules met idle 1 word nothing_held).1) ≢ [])
    (sym (ap (option_map (λ (s : Text × List Text). s.0)) (unmet word unnamed)))
    (word_at top word (bytes_eq word (codes "--")) top_refuses other)

help_first : (rest : List Text) → built_fault (built command_line) nothing_held (codes "help" ∷ rest) ≢ []
unfolding clap_on_literals
help_first rest = λ e. cc

walk_passes : (args : List Text) → built_fault (built command_line) nothing_held args ≡ [] → walk_fault (shape top) names (walk_from nothing_held) args ≡ []
walk_passes args none = (or_both _ _ none).0

ends_first : (rest : List Text) → built_fault (built command_line) nothing_held (codes "--" ∷ rest) ≢ []
unfolding clap_on_literals
ends_first [] = λ e. cc
ends_first (word ∷ rest) = λ e. trailing_refused top names (holding [] None) idle word rest (walk_passes (codes "--" ∷ word ∷ rest) e)

other_first : (word : Text) (rest : List Text) → IsUnnamed word → bytes_eq word (codes "--") ≡ false → built_fault (built command_line) nothing_held (word ∷ rest) ≢ []
unfolding clap_on_literals
other_first word rest unnamed other = or_first _ _ (or_first _ _ (top_turn word unnamed other))

no_words : built_fault (built command_line) nothing_held [] ≢ []
unfolding clap_on_literals
no_words = λ e. cc

-- the first word is a command's
abbrev IsNamedFirst : List Text → Type 0
IsNamedFirst args = (command : Command) × (rest : List Text) × (args ≡ word_of command ∷ rest)

named : (command : Command) (word : Text) (rest : List Text) → bytes_eq (word_of command) word ≡ true → IsNamedFirst (word ∷ rest)
named command word rest is = (command, rest, ap (λ (w : Text). w ∷ rest) (sym (same_text (word_of command) word is)))

last_cases : (word : Text) (rest : List Text) → built_fault (built command_line) nothing_held (word ∷ rest) ≡ [] → bytes_eq (codes "run") word ≡ false → bytes_eq (codes "threads") word ≡ false → bytes_eq (codes "make") word ≡ false
    → bytes_eq (codes "recover") word ≡ false → bytes_eq (codes "audit") word ≡ false → bytes_eq (codes "checkpoint") word ≡ false
    → bytes_eq (codes "ship") word ≡ false → bytes_eq (codes "follow") word ≡ false → bytes_eq (codes "replica") word ≡ false → IsNamedFirst (word ∷ rest)
last_cases word rest none no_run no_threads no_make no_recover no_audit no_checkpoint no_ship no_follow no_replica = elim (decide (bytes_eq (codes "help") word)) [
  | inl is ↦ absurd (help_first rest (subst (λ (w : Text). built_fault (built command_line) nothing_held (w ∷ rest) ≡ []) (sym (same_text (codes "help") word is)) none))
  | inr no_help ↦ elim (decide (bytes_eq word (codes "--"))) [
    | inl is ↦ absurd (ends_first rest (subst (λ (w : Text). built_fault (built command_line) nothing_held (w ∷ rest) ≡ []) (same_text word (codes "--") is) none))
    | inr other ↦ absurd (other_first word rest (record {
      no_run = no_run;
      no_threads = no_threads;
      no_make = no_make;
      no_recover = no_recover;
      no_audit = no_audit;
      no_checkpoint = no_checkpoint;
      no_ship = no_ship;
      no_follow = no_follow;
      no_replica = no_replica;
      no_help = no_help;
    }) other none)
  ]
]

pub named_first : (args : List Text) → built_fault (built command_line) nothing_held args ≡ [] → IsNamedFirst args
named_first [] none = absurd (no_words none)
named_first (word ∷ rest) none = elim (decide (bytes_eq (codes "run") word)) [
  | inl is ↦ named Run word rest is
  | inr no_run ↦ elim (decide (bytes_eq (codes "threads") word)) [
    | inl is ↦ named Threads word rest is
    | inr no_threads ↦ elim (decide (bytes_eq (codes "make") word)) [
      | inl is ↦ named (Make 1 1 false) word rest is
      | inr no_make ↦ elim (decide (bytes_eq (codes "recover") word)) [
        | inl is ↦ named Recover word rest is
        | inr no_recover ↦ elim (decide (bytes_eq (codes "audit") word)) [
          | inl is ↦ named Audit word rest is
          | inr no_audit ↦ elim (decide (bytes_eq (codes "checkpoint") word)) [
            | inl is ↦ named Checkpoint word rest is
            | inr no_checkpoint ↦ elim (decide (bytes_eq (codes "ship") word)) [
              | inl is ↦ named Ship word rest is
              | inr no_ship ↦ elim (decide (bytes_eq (codes "follow") word)) [
                | inl is ↦ named Follow word rest is
                | inr no_follow ↦ elim (decide (bytes_eq (codes "replica") word)) [
                  | inl is ↦ named Replica word rest is
                  | inr no_replica ↦ last_cases word rest none no_run no_threads no_make no_recover no_audit no_checkpoint no_ship no_follow no_replica
                ]
              ]
            ]
          ]
        ]
      ]
    ]
  ]
]
