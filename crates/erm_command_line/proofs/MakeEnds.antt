-- What is left behind the walk over the options of `make`: defaults, and options that must be given.
use Rattle.std.proofs.Common.{◌≡◌, ◌≢◌, ◌⊎◌, ◌||◌, ℕ, suc, ◌+◌, Bool, true, false, not, List, [], ◌∷◌, ◌++◌, Option, Some, None, append-nil, refl, sym, ap, ap₂, ◌∙◌, codes, inl, inr, subst}
use Rattle.std.specs.Prelude.{if◌then◌else◌}
use Rattle.std.specs.List.{fold}
use Rattle.clap.specs.Kinds.{Kinds, check_kinds, or_else}
use Rattle.clap.specs.Faults.{check_fault, default_fault, defaults_fault, given_default_fault, level_fault}
use Rattle.clap.specs.Simple.{default_of}
use Rattle.clap.specs.Takes.{is_given}
use Rattle.clap.specs.Walk.{Held, Row, Rule, Text, finished, first_of, has_row, more_values, nothing_held, one_of, settled_rows, with_default, with_values}
use Rattle.clap.specs.declared.builder.value_parser.Reading.TheVariants.{AsWritten}
use Rattle.clap.specs.declared.parser.matches.ValueSource.TheVariants.{DefaultValue}
use Rattle.clap.proofs.OnLiterals.{clap_on_literals}
use Rattle.erm_command_line.specs.CommandLine.{MakeOption, count, counts_of, marks_of, sessions, sessions_of, text}
use Rattle.erm_command_line.proofs.Levels.{make, or_both, shape}
use Rattle.erm_command_line.proofs.MakeOptions.{at_none, row, rows_of, rule_of, rules, text_rule}
use Rattle.erm_command_line.proofs.MakeWalk.{at, end, end_kinds, faults}

-- ---- the rows with defaults
abbrev pub finish : List Row → List Row
finish rows = fold with_default rows rules

-- the row of the mark for text where it isn't given
abbrev pub unmarked : Bool → List Row
unmarked true = []
unmarked false = with_default [] text_rule

same_either : (b : Bool) (rows : List Row) → (if b then rows else rows) ≡ rows
same_either true rows = refl
same_either false rows = refl

text_default : (b : Bool) (rows : List Row) → has_row (codes "text") rows ≡ b → (if b then rows else with_values (codes "text") AsWritten DefaultValue (codes "false" ∷ []) rows) ≡ rows ++ unmarked b
unfolding clap_on_literals
text_default true rows is = sym (append-nil rows)
text_default false rows is = at_none (codes "text") (more_values DefaultValue (codes "false" ∷ [])) _ rows is

pub finish_is : (rows : List Row) → finish rows ≡ rows ++ unmarked (has_row (codes "text") rows)
unfolding clap_on_literals
finish_is rows =
    ap (λ (r : List Row). with_default (with_default (with_default r (rule_of false)) text_rule) (Rattle.erm_command_line.proofs.Levels.rule_at 3 rules)) (same_either (has_row (codes "count") rows) rows)
    ∙ ap (λ (r : List Row). with_default (with_default r text_rule) (Rattle.erm_command_line.proofs.Levels.rule_at 3 rules)) (same_either (has_row (codes "sessions") rows) rows)
    ∙ same_either (has_row (codes "help") (with_default rows text_rule)) (with_default rows text_rule)
    ∙ text_default (has_row (codes "text") rows) rows refl

-- ---- defaults are no fault
empty_default : (b : Bool) (other : Kinds) → (if b || true then [] else other) ≡ []
empty_default true other = refl
empty_default false other = refl

both_none : (a b : Kinds) → a ≡ [] → b ≡ [] → or_else a b ≡ []
both_none a b first second = ap₂ or_else first second

text_none : (b : Bool) → (if b || false then [] else given_default_fault text_rule (codes "false" ∷ [])) ≡ []
unfolding clap_on_literals
text_none true = refl
text_none false = refl

pub defaults_none : (rows : List Row) → defaults_fault rows rules ≡ []
unfolding clap_on_literals
defaults_none rows = both_none _ _ (empty_default (has_row (codes "count") rows) (given_default_fault (rule_of true) []))
    (both_none _ _ (empty_default (has_row (codes "sessions") (with_default rows (rule_of true))) (given_default_fault (rule_of false) []))
    (both_none _ _ (text_none (has_row (codes "text") (with_default (with_default rows (rule_of true)) (rule_of false))))
    (both_none _ _ (empty_default (has_row (codes "help") (with_default (with_default (with_default rows (rule_of true)) (rule_of false)) text_rule)) (given_default_fault (Rattle.erm_command_line.proofs.Levels.rule_at 3 rules) [])) refl)))

-- ---- what is found in the rows
pub first_count : (options : List MakeOption) (rest : List Row) (value : Text) (more : List Text) → counts_of options ≡ value ∷ more
    → (first_of (codes "count") (rows_of options ++ rest) ≡ Some value) × (is_given (codes "count") (rows_of options ++ rest) ≡ true)
unfolding clap_on_literals rows_of
first_count [] rest value more is = absurd (cc)
first_count (count v ∷ options) rest value more is = let same : v ≡ value = cc in (ap (λ (t : Text). Some t) same, refl)
first_count (sessions v ∷ options) rest value more is = first_count options rest value more is
first_count (text ∷ options) rest value more is = first_count options rest value more is

pub first_sessions : (options : List MakeOption) (rest : List Row) (value : Text) (more : List Text) → sessions_of options ≡ value ∷ more
    → (first_of (codes "sessions") (rows_of options ++ rest) ≡ Some value) × (is_given (codes "sessions") (rows_of options ++ rest) ≡ true)
unfolding clap_on_literals rows_of
first_sessions [] rest value more is = absurd (cc)
first_sessions (count v ∷ options) rest value more is = first_sessions options rest value more is
first_sessions (sessions v ∷ options) rest value more is = let same : v ≡ value = cc in (ap (λ (t : Text). Some t) same, refl)
first_sessions (text ∷ options) rest value more is = first_sessions options rest value more is

no_count : (options : List MakeOption) (b : Bool) → counts_of options ≡ [] → is_given (codes "count") (rows_of options ++ unmarked b) ≡ false
unfolding clap_on_literals rows_of
no_count [] true is = refl
no_count [] false is = refl
no_count (count v ∷ options) b is = absurd (cc)
no_count (sessions v ∷ options) b is = no_count options b is
no_count (text ∷ options) b is = no_count options b is

no_sessions : (options : List MakeOption) (b : Bool) → sessions_of options ≡ [] → is_given (codes "sessions") (rows_of options ++ unmarked b) ≡ false
unfolding clap_on_literals rows_of
no_sessions [] true is = refl
no_sessions [] false is = refl
no_sessions (count v ∷ options) b is = no_sessions options b is
no_sessions (sessions v ∷ options) b is = absurd (cc)
no_sessions (text ∷ options) b is = no_sessions options b is

marked_has : (options : List MakeOption) (n : ℕ) → marks_of options ≡ suc n → has_row (codes "text") (rows_of options) ≡ true
unfolding clap_on_literals rows_of
marked_has [] n is = absurd (cc)
marked_has (count v ∷ options) n is = marked_has options n is
marked_has (sessions v ∷ options) n is = marked_has options n is
marked_has (text ∷ options) n is = refl

unmarked_has : (options : List MakeOption) → marks_of options ≡ 0 → has_row (codes "text") (rows_of options) ≡ false
unfolding clap_on_literals rows_of
unmarked_has [] is = refl
unmarked_has (count v ∷ options) is = unmarked_has options is
unmarked_has (sessions v ∷ options) is = unmarked_has options is
unmarked_has (text ∷ options) is = absurd (let bad : marks_of options + 1 ≡ 0 = is in omega (Rattle.std.proofs.Common.arith, bad))

found_mark : (options : List MakeOption) (rest : List Row) (n : ℕ) → marks_of options ≡ suc n → one_of (codes "text") (rows_of options ++ rest) ≡ Some (codes "true")
unfolding clap_on_literals rows_of
found_mark [] rest n is = absurd (cc)
found_mark (count v ∷ options) rest n is = found_mark options rest n is
found_mark (sessions v ∷ options) rest n is = found_mark options rest n is
found_mark (text ∷ options) rest n is = refl

found_default : (options : List MakeOption) → marks_of options ≡ 0 → one_of (codes "text") (rows_of options ++ unmarked false) ≡ Some (codes "false")
unfolding clap_on_literals rows_of
found_default [] is = refl
found_default (count v ∷ options) is = found_default options is
found_default (sessions v ∷ options) is = found_default options is
found_default (text ∷ options) is = absurd (let bad : marks_of options + 1 ≡ 0 = is in omega (Rattle.std.proofs.Common.arith, bad))

-- the mark for text, as it is read
pub mark_found : (options : List MakeOption) → marks_of options ≡ 1 → one_of (codes "text") (finish (rows_of options)) ≡ Some (codes "true")
mark_found options is = ap (one_of (codes "text")) (finish_is (rows_of options)) ∙ found_mark options (unmarked (has_row (codes "text") (rows_of options))) 0 is

pub default_found : (options : List MakeOption) → marks_of options ≡ 0 → one_of (codes "text") (finish (rows_of options)) ≡ Some (codes "false")
default_found options is = ap (one_of (codes "text")) (finish_is (rows_of options)) ∙ ap (λ (b : Bool). one_of (codes "text") (rows_of options ++ unmarked b)) (unmarked_has options is) ∙ found_default options is

-- ---- options that must be given
abbrev check_at : Bool → Bool → Kinds
check_at counted seated = check_kinds false false (not counted || (not seated || false))

check_is : (rows : List Row) → check_fault (shape make) rows false ≡ check_at (is_given (codes "count") rows) (is_given (codes "sessions") rows)
unfolding clap_on_literals
check_is rows = refl

check_passes : (counted seated : Bool) → check_at counted seated ≡ [] → (counted ≡ true) × (seated ≡ true)
check_passes true true none = (refl, refl)
check_passes true false none = absurd (cc)
check_passes false seated none = absurd (cc)

-- both numbers are given where nothing is at fault
pub both_given : (options : List MakeOption) → check_fault (shape make) (finish (rows_of options)) false ≡ [] → (counts_of options ≢ []) × (sessions_of options ≢ [])
both_given options none =
    let b = has_row (codes "text") (rows_of options) in
    let passed = check_passes _ _ (sym (check_is (rows_of options ++ unmarked b)) ∙ sym (ap (λ (r : List Row). check_fault (shape make) r false) (finish_is (rows_of options))) ∙ none) in (
      λ no. let bad : true ≡ false = sym passed.0 ∙ no_count options b no in cc,
      λ no. let bad : true ≡ false = sym passed.1 ∙ no_sessions options b no in cc,
    )

pub given_passes : (options : List MakeOption) (transactions seats : Text) → counts_of options ≡ transactions ∷ [] → sessions_of options ≡ seats ∷ [] → check_fault (shape make) (finish (rows_of options)) false ≡ []
given_passes options transactions seats counted seated =
    let rest = unmarked (has_row (codes "text") (rows_of options)) in
    ap (λ (r : List Row). check_fault (shape make) r false) (finish_is (rows_of options)) ∙ check_is (rows_of options ++ rest)
    ∙ ap₂ check_at (first_count options rest transactions [] counted).1 (first_sessions options rest seats [] seated).1

-- ---- the level of `make`
pub make_level : (words : List Text) → let h = end (at [] None) words in let rows = settled_rows rules h.pending h.rows in
    level_fault (shape make) [] nothing_held words false [] ≡ or_else (faults (at [] None) words) (or_else (end_kinds h) (or_else (defaults_fault rows rules) (check_fault (shape make) (finish rows) false)))
unfolding clap_on_literals
make_level words = refl
