-- The words that are taken are those of the commands, and what is read of them is the command.
use Rattle.std.proofs.Common.{◌≡◌, ◌≢◌, ◌⊎◌, ◌+◌, ◌<◌, ◌≤◌, ◌^◌, ℕ, suc, zero, Bool, true, false, List, [], ◌∷◌, ◌++◌, length, map, Option, Some, None, Result, Ok, Err, IfSome, IfNone, decimal, refl, sym, ap, ap₂, ◌∙◌, codes, inl, inr, subst, arith}
use Rattle.std.specs.Prelude.{String, string_bytes, if◌then◌else◌}
use Rattle.std.specs.declared.alloc.Global.{Global}
use Rattle.std.specs.List.{flat_map}
use Rattle.std.specs.Bool.{⊤}
use Rattle.std.specs.Str.{bytes_eq}
use Rattle.std.proofs.lemmas.List.Concat.{flat_map-cons}
use Rattle.std.specs.Str.Parse.{AllDigits}
use Rattle.std.proofs.lemmas.Bool.{ne_eqb}
use Rattle.std.proofs.lemmas.Fmt.{decimal_injective, decimal_is_IsNumeral}
use Rattle.std.proofs.lemmas.Str.Parse.{tells_digits}
use Rattle.clap.specs.Kinds.{or_else}
use Rattle.clap.specs.Simple.{built, subcommand_rows_of}
use Rattle.clap.specs.declared.parser.matches.ArgMatches.{ArgMatches}
use Rattle.std.specs.declared.alloc.AllocError.{AllocError}
use Rattle.clap.specs.Faults.{built_fault, check_fault, defaults_fault, walk_fault}
use Rattle.clap.specs.Walk.{Held, Row, Text, first_of, nothing_held, one_of, rows_after, settled_rows, walk_from}
use Rattle.clap.specs.Words.{HasKind, Kinds, fault_of, kind_of, subcommand_of}
use Rattle.clap.specs.declared.error.Error.{Error}
use Rattle.clap.specs.declared.error.kind.ErrorKind.TheVariants as kind
use Rattle.clap.proofs.OnLiterals.{clap_on_literals}
use Rattle.erm_command_line.specs.CommandLine.{AreCommandWords, AreTaken, AreWritten, AskFor, IsCommand, IsNoCommand, IsReadAs, MakeOption, apart, command_line, counts_of, marks_of, sessions_of, word_of}
use Rattle.erm_command_line.specs.declared.command.Command.{Command}
use Rattle.erm_command_line.specs.declared.command.Command.TheVariants.{Run, Threads, Recover, Audit, Checkpoint, Ship, Follow, Replica, Make}
use Rattle.erm_command_line.specs.declared.command.TheConstants.{MOST_SESSIONS, MOST_TRANSACTIONS}
use Rattle.erm_command_line.proofs.FirstWords.{command_fault, command_found, command_kinds, leaf_words, level_of, named_first}
use Rattle.erm_command_line.proofs.Levels.{decide, leaf, make, or_both, shape}
use Rattle.erm_command_line.proofs.MakeEnds.{both_given, default_found, defaults_none, finish, first_count, first_sessions, finish_is, given_passes, make_level, mark_found, unmarked}
use Rattle.erm_command_line.proofs.MakeOptions.{rows_of, rules}
use Rattle.erm_command_line.proofs.MakePasses.{ArePlain, IsPlain, fresh_is_once, once_is_fresh, options_pass}
use Rattle.erm_command_line.proofs.MakeWalk.{at, end, end_kinds, faults}
use Rattle.erm_command_line.proofs.MakeWords.{Ended, passed_are_options}

-- ---- the command line is simple
pub is_plain : Rattle.clap.specs.Faults.is_simple_and_free command_line ≡ true
unfolding clap_on_literals
is_plain = refl

pub line_is_simple : Rattle.clap.specs.Simple.is_simple command_line ≡ true
unfolding clap_on_literals
line_is_simple = refl

-- ---- lists of one word
one : (words : List Text) → words ≢ [] → length words ≤ 1 → (word : Text) × (words ≡ word ∷ [])
one [] some few = absurd (some refl)
one (word ∷ []) some few = (word, refl)
one (word ∷ second ∷ rest) some few = absurd (omega (arith, few))

-- ---- the words of `make`
-- what was found behind its options
found_is : (words : List Text) (rows : List Row) → settled_rows rules (end (at [] None) words).pending (end (at [] None) words).rows ≡ rows → rows_after (shape make).rules [] words ≡ finish rows
unfolding clap_on_literals
found_is words rows is = ap finish is

mark_is : (options : List MakeOption) (as_text : Bool) (n : ℕ) → marks_of options ≡ n → n ≤ 1 → (one_of (codes "text") (finish (rows_of options)) ≡ Some (codes "true") → as_text ≡ true)
    → (one_of (codes "text") (finish (rows_of options)) ≡ Some (codes "false") → as_text ≡ false) → marks_of options ≡ (if as_text then 1 else 0)
mark_is options as_text zero is few set unset = is ∙ sym (ap (λ (b : Bool). if b then 1 else 0) (unset (default_found options is)))
mark_is options as_text (suc zero) is few set unset = is ∙ sym (ap (λ (b : Bool). if b then 1 else 0) (set (mark_found options is)))
mark_is options as_text (suc (suc n)) is few set unset = absurd (omega (arith, few))

same_number : (value : Text) (found : Option Text) (n : ℕ) → found ≡ Some value → found ≡ Some (decimal n) → value ≡ decimal n
same_number value found n is read = let same : Some value ≡ Some (decimal n) = sym is ∙ read in cc

-- options that are read so ask for it
read_options : (words : List Text) (transactions seats : ℕ) (as_text : Bool) (ended : Ended [] None (end (at [] None) words) words)
    → check_fault (shape make) (finish (rows_of ended.options)) false ≡ [] → IsReadAs (Some (codes "make", finish (rows_of ended.options))) (Make transactions seats as_text) → AskFor ended.options transactions seats as_text
read_options words transactions seats as_text ended given read =
    let options = ended.options in
    let once = fresh_is_once options [] ended.fresh in
    let both = both_given options given in
    let counted = one (counts_of options) both.0 (omega (arith, once.0)) in
    let seated = one (sessions_of options) both.1 (omega (arith, once.1)) in
    let rest = unmarked (Rattle.clap.specs.Walk.has_row (codes "text") (rows_of options)) in
    let finished = finish_is (rows_of options) in
    let count_is = same_number counted.0 (first_of (codes "count") (finish (rows_of options))) transactions
    (ap (first_of (codes "count")) finished ∙ (first_count options rest counted.0 [] counted.1).0) read.1.2 in
    let seats_are = same_number seated.0 (first_of (codes "sessions") (finish (rows_of options))) seats
    (ap (first_of (codes "sessions")) finished ∙ (first_sessions options rest seated.0 [] seated.1).0) read.2.2 in
    record {
      counted = (read.1.0, read.1.1, counted.1 ∙ ap (λ (t : Text). t ∷ []) count_is);
      seated = (read.2.0, read.2.1, seated.1 ∙ ap (λ (t : Text). t ∷ []) seats_are);
      marked = mark_is options as_text (marks_of options) refl (omega (arith, once.2)) read.3 read.4;
    }

abbrev IsSpelled : Command → List Text → Type 0
IsSpelled command args = (words : List Text) × AreTaken command words × ((args ≡ words) ⊎ (args ≡ words ++ codes "--" ∷ []))

make_read : (transactions seats : ℕ) (as_text : Bool) (rest : List Text) → command_kinds make rest ≡ [] → IsReadAs (Some (codes "make", rows_after (shape make).rules [] rest)) (Make transactions seats as_text)
    → IsSpelled (Make transactions seats as_text) (codes "make" ∷ rest)
make_read transactions seats as_text rest none read =
    let h = end (at [] None) rest in
    let rows = settled_rows rules h.pending h.rows in
    let walk = or_both (faults (at [] None) rest) (or_else (end_kinds h) (or_else (defaults_fault rows rules) (check_fault (shape make) (finish rows) false))) (sym (make_level rest) ∙ none) in
    let settled = or_both (end_kinds h) (or_else (defaults_fault rows rules) (check_fault (shape make) (finish rows) false)) walk.1 in
    let given = (or_both (defaults_fault rows rules) (check_fault (shape make) (finish rows) false) settled.1).1 in
    let ended = passed_are_options rest walk.0 settled.0 in
    let asks = read_options rest transactions seats as_text ended
    (subst (λ (r : List Row). check_fault (shape make) (finish r) false ≡ []) ended.final given)
    (subst (λ (r : List Row). IsReadAs (Some (codes "make", r)) (Make transactions seats as_text)) (found_is rest (rows_of ended.options) ended.final) read) in (
      codes "make" ∷ ended.more,
      (ended.options, ended.more, asks, ended.written, refl),
      elim ended.spelled [
        | inl is ↦ inl (ap (λ (w : List Text). codes "make" ∷ w) is)
        | inr is ↦ inr (ap (λ (w : List Text). codes "make" ∷ w) is)
      ],
    )

-- ---- what was taken, and read as a command, are its words
leaf_read : (name : Text) (rest : List Text) → command_kinds (leaf name) rest ≡ [] → (rest ≡ []) ⊎ (rest ≡ codes "--" ∷ [])
leaf_read name rest none = leaf_words name rest (or_both _ _ none).0

plain_read : (word : Text) (rest : List Text) → command_kinds (leaf word) rest ≡ [] → (words : List Text) × (words ≡ word ∷ []) × ((word ∷ rest ≡ words) ⊎ (word ∷ rest ≡ words ++ codes "--" ∷ []))
plain_read word rest none = (
  word ∷ [],
  refl,
  elim (leaf_read word rest none) [
    | inl is ↦ inl (ap (λ (w : List Text). word ∷ w) is)
    | inr is ↦ inr (ap (λ (w : List Text). word ∷ w) is)
  ],
)

spelled_at : (command : Command) (rest : List Text) → command_kinds (level_of command) rest ≡ [] → IsReadAs (Some (word_of command, rows_after (shape (level_of command)).rules [] rest)) command → IsSpelled command (word_of command ∷ rest)
spelled_at Run rest none read = plain_read (codes "run") rest none
spelled_at Threads rest none read = plain_read (codes "threads") rest none
spelled_at Recover rest none read = plain_read (codes "recover") rest none
spelled_at Audit rest none read = plain_read (codes "audit") rest none
spelled_at Checkpoint rest none read = plain_read (codes "checkpoint") rest none
spelled_at Ship rest none read = plain_read (codes "ship") rest none
spelled_at Follow rest none read = plain_read (codes "follow") rest none
spelled_at Replica rest none read = plain_read (codes "replica") rest none
spelled_at (Make transactions seats as_text) rest none read = make_read transactions seats as_text rest none read

-- the command's word is the name that was read
read_name : (command : Command) (name : Text) (rows : List Row) → IsReadAs (Some (name, rows)) command → name ≡ word_of command
read_name Run name rows read = read
read_name Threads name rows read = read
read_name Recover name rows read = read
read_name Audit name rows read = read
read_name Checkpoint name rows read = read
read_name Ship name rows read = read
read_name Follow name rows read = read
read_name Replica name rows read = read
read_name (Make transactions seats as_text) name rows read = read.0

args_spelled : (name : Text) (args : List Text) (command : Command) → fault_of command_line (name ∷ args) ≡ [] → IsReadAs (subcommand_of command_line (name ∷ args)) command → IsSpelled command args
args_spelled name args command none read =
    let first = named_first args none in
    let found = ap (λ (a : List Text). subcommand_of command_line (name ∷ a)) first.2 ∙ command_found first.0 name first.1 in
    let same = read_name command (word_of first.0) (rows_after (shape (level_of first.0)).rules [] first.1) (subst (λ (f : Option (Text × List Row)). IsReadAs f command) found read) in
    let is : args ≡ word_of command ∷ first.1 = first.2 ∙ ap (λ (w : Text). w ∷ first.1) same in
    let level = sym (command_fault command first.1) ∙ sym (ap (λ (a : List Text). built_fault (built command_line) nothing_held a) is) ∙ none in
    let again = ap (λ (a : List Text). subcommand_of command_line (name ∷ a)) is ∙ command_found command name first.1 in
    subst (λ (a : List Text). IsSpelled command a) (sym is) (spelled_at command first.1 level (subst (λ (f : Option (Text × List Row)). IsReadAs f command) again read))

words_spelled : (texts : List Text) (command : Command) → fault_of command_line texts ≡ [] → IsReadAs (subcommand_of command_line texts) command
    → (name : Text) × (args : List Text) × AreTaken command args × ((texts ≡ name ∷ args) ⊎ (texts ≡ name ∷ args ++ codes "--" ∷ []))
words_spelled [] command none read = absurd (let first = named_first [] none in cc)
words_spelled (name ∷ args) command none read =
    let spelled = args_spelled name args command none read in (
      name,
      spelled.0,
      spelled.1,
      elim spelled.2 [
        | inl is ↦ inl (ap (λ (a : List Text). name ∷ a) is)
        | inr is ↦ inr (ap (λ (a : List Text). name ∷ a) is)
      ],
    )

pub read_are_commands : (words : List (String Global)) (command : Command) → fault_of command_line (map string_bytes words) ≡ [] → IsReadAs (subcommand_of command_line (map string_bytes words)) command → IsCommand words command
read_are_commands words command none read =
    let spelled = words_spelled (map string_bytes words) command none read in
    record { name = spelled.0; args = spelled.1; asks = spelled.2; spelled = spelled.3 }

-- ---- the words of a command are taken, and read as it
-- the digits of a number are neither a flag nor `--`
plain_digits : (ds : Text) → ds ≢ [] → AllDigits 10 ds → IsPlain ds
plain_digits [] some digits = absurd (some refl)
plain_digits (x ∷ xs) some digits =
    let range = (tells_digits.parts x xs digits).0 in
    let other = ne_eqb x 45 (λ e. omega (arith, e, range)) in
    (rw other refl, rw other refl, rw other refl)

plain_number : (most n : ℕ) → n ≤ most → most < 2 ^ 32 → IsPlain (decimal n)
plain_number most n few small =
    let digits = decimal_is_IsNumeral n (omega (arith, few, small)) in
    plain_digits (decimal n) (λ none. let none_left = ap length none in omega (arith, digits.0.0, none_left)) digits.0.1

-- the mark for text is found, set or not
abbrev IsMarked : Command → Option (Text × List Row) → Type 0
IsMarked (Make transactions seats as_text) None = ⊤
IsMarked (Make transactions seats as_text) (Some p) = (one_of (codes "text") p.1 ≡ Some (codes "true")) ⊎ (one_of (codes "text") p.1 ≡ Some (codes "false"))
IsMarked command found = ⊤

abbrev IsTakenAs : Command → List Text → Type 0
IsTakenAs command rest = (command_kinds (level_of command) rest ≡ []) × IsReadAs (Some (word_of command, rows_after (shape (level_of command)).rules [] rest)) command
    × IsMarked command (Some (word_of command, rows_after (shape (level_of command)).rules [] rest))

abbrev IsTail : List Text → Type 0
IsTail tail = (tail ≡ []) ⊎ (tail ≡ codes "--" ∷ [])

make_taken : (transactions seats : ℕ) (as_text : Bool) (options : List MakeOption) (more tail : List Text) → AskFor options transactions seats as_text → AreWritten options more → IsTail tail
    → IsTakenAs (Make transactions seats as_text) (more ++ tail)
make_taken transactions seats as_text options more tail asks written ending =
    let counted = asks.counted.2 in
    let seated = asks.seated.2 in
    let count_plain = plain_number MOST_TRANSACTIONS transactions asks.counted.1 (omega arith) in
    let seats_plain = plain_number MOST_SESSIONS seats asks.seated.1 (omega arith) in
    let marks : marks_of options ≤ 1 = by as_text (marks_of options) asks.marked in
    let fresh = once_is_fresh options [] (let l = ap length counted in omega (arith, l)) (let l = ap length seated in omega (arith, l)) (omega (arith, marks)) in
    let passes = options_pass options tail ending (subst ArePlain (sym counted) (count_plain, tt)) (subst ArePlain (sym seated) (seats_plain, tt)) more [] None written tt fresh in
    let h = end (at [] None) (more ++ tail) in
    let rows = settled_rows rules h.pending h.rows in
    let given = ap (λ (r : List Row). check_fault (shape make) (finish r) false) passes.2 ∙ given_passes options (decimal transactions) (decimal seats) counted seated in
    let rest = unmarked (Rattle.clap.specs.Walk.has_row (codes "text") (rows_of options)) in
    let finished = finish_is (rows_of options) in
    let read : IsReadAs (Some (codes "make", finish (rows_of options))) (Make transactions seats as_text) = (
      refl,
      (asks.counted.0, asks.counted.1, ap (first_of (codes "count")) finished ∙ (first_count options rest (decimal transactions) [] counted).0),
      (asks.seated.0, asks.seated.1, ap (first_of (codes "sessions")) finished ∙ (first_sessions options rest (decimal seats) [] seated).0),
      is_marked as_text options asks.marked,
      is_unmarked as_text options asks.marked,
    ) in (
      make_level (more ++ tail) ∙ ap₂ or_else passes.0 (ap₂ or_else passes.1 (ap₂ or_else (defaults_none rows) given)),
      subst (λ (r : List Row). IsReadAs (Some (codes "make", r)) (Make transactions seats as_text)) (sym (found_is (more ++ tail) (rows_of options) passes.2)) read,
      subst (λ (r : List Row). IsMarked (Make transactions seats as_text) (Some (codes "make", r))) (sym (found_is (more ++ tail) (rows_of options) passes.2)) (found_mark as_text options asks.marked),
    )
  where
    found_mark : (as_text : Bool) (options : List MakeOption) → marks_of options ≡ (if as_text then 1 else 0)
        → (one_of (codes "text") (finish (rows_of options)) ≡ Some (codes "true")) ⊎ (one_of (codes "text") (finish (rows_of options)) ≡ Some (codes "false"))
    found_mark true options is = inl (mark_found options is)
    found_mark false options is = inr (default_found options is)

    by : (as_text : Bool) (n : ℕ) → n ≡ (if as_text then 1 else 0) → n ≤ 1
    by true n is = omega (arith, is)
    by false n is = omega (arith, is)

    is_marked : (as_text : Bool) (options : List MakeOption) → marks_of options ≡ (if as_text then 1 else 0) → one_of (codes "text") (finish (rows_of options)) ≡ Some (codes "true") → as_text ≡ true
    is_marked true options is read = refl
    is_marked false options is read = absurd (let bad : Some (codes "false") ≡ Some (codes "true") = sym (default_found options is) ∙ read in cc)

    is_unmarked : (as_text : Bool) (options : List MakeOption) → marks_of options ≡ (if as_text then 1 else 0) → one_of (codes "text") (finish (rows_of options)) ≡ Some (codes "false") → as_text ≡ false
    is_unmarked true options is read = absurd (let bad : Some (codes "true") ≡ Some (codes "false") = sym (mark_found options is) ∙ read in cc)
    is_unmarked false options is read = refl

-- without options
leaf_taken : (name : Text) (tail : List Text) → IsTail tail → command_kinds (leaf name) tail ≡ []
unfolding clap_on_literals
leaf_taken name tail is = elim is [
  | inl none ↦ subst (λ (t : List Text). command_kinds (leaf name) t ≡ []) (sym none) refl
  | inr ended ↦ subst (λ (t : List Text). command_kinds (leaf name) t ≡ []) (sym ended) refl
]

abbrev IsTakenBehind : Command → List Text → Type 0
IsTakenBehind command args = (rest : List Text) × (args ≡ word_of command ∷ rest) × IsTakenAs command rest

plain_taken : (word : Text) (args tail : List Text) → args ≡ word ∷ [] → args ++ tail ≡ word ∷ tail
plain_taken word args tail is = ap (λ (a : List Text). a ++ tail) is

taken_behind : (command : Command) (args tail : List Text) → AreTaken command args → IsTail tail → IsTakenBehind command (args ++ tail)
taken_behind Run args tail is ending = (tail, plain_taken (codes "run") args tail is, (leaf_taken (codes "run") tail ending, refl, tt))
taken_behind Threads args tail is ending = (tail, plain_taken (codes "threads") args tail is, (leaf_taken (codes "threads") tail ending, refl, tt))
taken_behind Recover args tail is ending = (tail, plain_taken (codes "recover") args tail is, (leaf_taken (codes "recover") tail ending, refl, tt))
taken_behind Audit args tail is ending = (tail, plain_taken (codes "audit") args tail is, (leaf_taken (codes "audit") tail ending, refl, tt))
taken_behind Checkpoint args tail is ending = (tail, plain_taken (codes "checkpoint") args tail is, (leaf_taken (codes "checkpoint") tail ending, refl, tt))
taken_behind Ship args tail is ending = (tail, plain_taken (codes "ship") args tail is, (leaf_taken (codes "ship") tail ending, refl, tt))
taken_behind Follow args tail is ending = (tail, plain_taken (codes "follow") args tail is, (leaf_taken (codes "follow") tail ending, refl, tt))
taken_behind Replica args tail is ending = (tail, plain_taken (codes "replica") args tail is, (leaf_taken (codes "replica") tail ending, refl, tt))
taken_behind (Make transactions seats as_text) args tail is ending =
    (is.1 ++ tail, ap (λ (a : List Text). a ++ tail) is.4, make_taken transactions seats as_text is.0 is.1 tail is.2 is.3 ending)

abbrev IsTaken : Command → List Text → Type 0
IsTaken command texts = (fault_of command_line texts ≡ []) × IsReadAs (subcommand_of command_line texts) command × IsMarked command (subcommand_of command_line texts)

taken_texts : (command : Command) (name : Text) (args : List Text) → IsTakenBehind command args → IsTaken command (name ∷ args)
taken_texts command name args behind = subst (λ (a : List Text). IsTaken command (name ∷ a)) (sym behind.1) (
  command_fault command behind.0 ∙ behind.2.0,
  subst (λ (f : Option (Text × List Row)). IsReadAs f command) (sym (command_found command name behind.0)) behind.2.1,
  subst (λ (f : Option (Text × List Row)). IsMarked command f) (sym (command_found command name behind.0)) behind.2.2,
)

pub commands_are_read : (words : List (String Global)) (command : Command) → IsCommand words command → IsTaken command (map string_bytes words)
commands_are_read words command is = elim is.spelled [
  | inl alone ↦ subst (λ (t : List Text). IsTaken command t) (sym (alone ∙ ap (λ (a : List Text). is.name ∷ a) (sym (Rattle.std.proofs.Common.append-nil is.args))))
      (taken_texts command is.name (is.args ++ []) (taken_behind command is.args [] is.asks (inl refl)))
  | inr ended ↦ subst (λ (t : List Text). IsTaken command t) (sym ended) (taken_texts command is.name (is.args ++ codes "--" ∷ []) (taken_behind command is.args (codes "--" ∷ []) is.asks (inr refl)))
]

-- ---- an error without a fault is want of memory
pub only_memory : (kinds : Kinds) (e : Error) → kinds ≡ [] → HasKind kinds e → kind_of e ≡ kind.OutOfMemory
only_memory [] e none (inl memory) = memory
only_memory [] e none (inr other) = absurd other
only_memory (k ∷ ks) e none h = absurd (cc none)

-- ---- what is answered
pub read_of : (words : List (String Global)) (m : ArgMatches) (r : Option Command) → IfSome r (λ command. IsReadAs (subcommand_rows_of m) command) → fault_of command_line (map string_bytes words) ≡ []
    → subcommand_rows_of m ≡ subcommand_of command_line (map string_bytes words) → (command : Command) → ◌≡◌ {A = Result (Option Command) AllocError} (Ok r) (Ok (Some command)) → IsCommand words command
read_of words m None read none found command is = absurd (cc)
read_of words m (Some asked) read none found command is =
    let same : asked ≡ command = cc in
    subst (λ (c : Command). IsCommand words c) same (read_are_commands words asked none (subst (λ (f : Option (Text × List Row)). IsReadAs f asked) found read))

pub none_of : (words : List (String Global)) (m : ArgMatches) (r : Option Command) → IfNone r ((command : Command) → IsReadAs (subcommand_rows_of m) command → ⊥)
    → subcommand_rows_of m ≡ subcommand_of command_line (map string_bytes words) → ◌≡◌ {A = Result (Option Command) AllocError} (Ok r) (Ok None) → IsNoCommand words
none_of words m None unread found is = λ command asks. unread command (subst (λ (f : Option (Text × List Row)). IsReadAs f command) (sym found) (commands_are_read words command asks).1)
none_of words m (Some asked) unread found is = absurd (cc)

-- ---- words ask for one command
-- whether a command has no options
abbrev is_bare : Command → Bool
is_bare (Make transactions seats as_text) = false
is_bare command = true

-- the command that has the word
abbrev command_at : Text → Command
command_at word = if bytes_eq word (codes "run") then Run else (if bytes_eq word (codes "threads") then Threads else (if bytes_eq word (codes "recover") then Recover
    else (if bytes_eq word (codes "audit") then Audit else (if bytes_eq word (codes "checkpoint") then Checkpoint
    else (if bytes_eq word (codes "ship") then Ship else (if bytes_eq word (codes "follow") then Follow
    else (if bytes_eq word (codes "replica") then Replica else Make 0 0 false)))))))

at_word : (command : Command) → is_bare command ≡ true → command_at (word_of command) ≡ command
at_word Run bare = refl
at_word Threads bare = refl
at_word Recover bare = refl
at_word Audit bare = refl
at_word Checkpoint bare = refl
at_word Ship bare = refl
at_word Follow bare = refl
at_word Replica bare = refl
at_word (Make transactions seats as_text) bare = absurd (cc)

with_options : (command : Command) → is_bare command ≡ false → (transactions : ℕ) × (seats : ℕ) × (as_text : Bool) × (command ≡ Make transactions seats as_text)
with_options Run bare = absurd (cc)
with_options Threads bare = absurd (cc)
with_options Recover bare = absurd (cc)
with_options Audit bare = absurd (cc)
with_options Checkpoint bare = absurd (cc)
with_options Ship bare = absurd (cc)
with_options Follow bare = absurd (cc)
with_options Replica bare = absurd (cc)
with_options (Make transactions seats as_text) bare = (transactions, seats, as_text, refl)

-- a command with options has another word than one without
other_word : (a b : Command) → is_bare a ≡ true → is_bare b ≡ false → word_of a ≡ word_of b → ⊥
other_word a b bare optional same =
    let made = with_options b optional in
    let is : a ≡ Make 0 0 false = sym (at_word a bare) ∙ ap command_at (same ∙ ap word_of made.3) in
    let bad : true ≡ false = sym bare ∙ ap is_bare is in
    cc

same_numbers : (most m n : ℕ) (found : Option Text) → most < 2 ^ 32 → m ≤ most → n ≤ most → found ≡ Some (decimal m) → found ≡ Some (decimal n) → m ≡ n
same_numbers most m n found small first second is also =
    let same : Some (decimal m) ≡ Some (decimal n) = sym is ∙ also in
    decimal_injective m n (omega (arith, small, first)) (omega (arith, small, second)) (cc)

-- options of `make` that are read from the same rows are the same
same_options : (name : Text) (rows : List Row) (m n j k : ℕ) (s t : Bool) → IsReadAs (Some (name, rows)) (Make m j s) → IsReadAs (Some (name, rows)) (Make n k t)
    → IsMarked (Make m j s) (Some (name, rows)) → Make m j s ≡ Make n k t
same_options name rows m n j k s t first second mark =
    let transactions = same_numbers MOST_TRANSACTIONS m n (first_of (codes "count") rows) (omega arith) first.1.1 second.1.1 first.1.2 second.1.2 in
    let seats = same_numbers MOST_SESSIONS j k (first_of (codes "sessions") rows) (omega arith) first.2.1 second.2.1 first.2.2 second.2.2 in
    let same_mark : s ≡ t = elim mark [ inl set ↦ first.3 set ∙ sym (second.3 set) | inr unset ↦ first.4 unset ∙ sym (second.4 unset) ] in
    ap (λ (i : ℕ). Make i j s) transactions ∙ ap (λ (i : ℕ). Make n i s) seats ∙ ap (λ (b : Bool). Make n k b) same_mark

read_once : (found : Option (Text × List Row)) (a b : Command) → IsReadAs found a → IsReadAs found b → IsMarked a found → a ≡ b
read_once None a b first second mark = absurd first
read_once (Some (name, rows)) a b first second mark =
    let same = sym (read_name a name rows first) ∙ read_name b name rows second in
    elim (decide (is_bare a)) [
      | inl bare ↦ elim (decide (is_bare b)) [
        | inl also ↦ sym (at_word a bare) ∙ ap command_at same ∙ at_word b also
        | inr optional ↦ absurd (other_word a b bare optional same)
      ]
      | inr optional ↦ elim (decide (is_bare b)) [
        | inl bare ↦ absurd (other_word b a bare optional (sym same))
        | inr also ↦
            let left = with_options a optional in
            let right = with_options b also in
            left.3 ∙ same_options name rows left.0 right.0 left.1 right.1 left.2 right.2 (subst (λ (c : Command). IsReadAs (Some (name, rows)) c) left.3 first)
            (subst (λ (c : Command). IsReadAs (Some (name, rows)) c) right.3 second) (subst (λ (c : Command). IsMarked c (Some (name, rows))) left.3 mark) ∙ sym right.3
      ]
    ]

same_command : (words : List (String Global)) (a b : Command) → IsCommand words a → IsCommand words b → a ≡ b
same_command words a b first second =
    let left = commands_are_read words a first in
    read_once (subcommand_of command_line (map string_bytes words)) a b left.1 (commands_are_read words b second).1 left.2

pub found_of : (words : List (String Global)) (r : Option Command) → ((command : Command) → ◌≡◌ {A = Result (Option Command) AllocError} (Ok r) (Ok (Some command)) → IsCommand words command)
    → (◌≡◌ {A = Result (Option Command) AllocError} (Ok r) (Ok None) → IsNoCommand words) → (command : Command) → IsCommand words command → ◌≡◌ {A = Result (Option Command) AllocError} (Ok r) (Ok (Some command))
found_of words None asked none command is = absurd (none refl command is)
found_of words (Some other) asked none command is = ap (λ (c : Command). Ok (Some c)) (same_command words other command (asked other refl) is)

-- ---- the words as they are meant to be given
apart_written : (options : List MakeOption) → AreWritten options (flat_map apart options)
apart_written [] = refl
apart_written (option ∷ rest) = (flat_map apart rest, inl (flat_map-cons apart option rest), apart_written rest)

meant_are_taken : (command : Command) (args : List Text) → AreCommandWords command args → AreTaken command args
meant_are_taken Run args is = is
meant_are_taken Threads args is = is
meant_are_taken Recover args is = is
meant_are_taken Audit args is = is
meant_are_taken Checkpoint args is = is
meant_are_taken Ship args is = is
meant_are_taken Follow args is = is
meant_are_taken Replica args is = is
meant_are_taken (Make transactions seats as_text) args is = (is.0, flat_map apart is.0, is.1, apart_written is.0, is.2)

pub meant_are_commands : (words : List (String Global)) (command : Command) (name : List ℕ) (args : List (List ℕ)) → AreCommandWords command args → map string_bytes words ≡ name ∷ args → IsCommand words command
meant_are_commands words command name args is spelled = record { name = name; args = args; asks = meant_are_taken command args is; spelled = inl spelled }
