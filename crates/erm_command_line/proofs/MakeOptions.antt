-- The options of `make` as rows of what was found.
use Rattle.std.proofs.Common.{◌≡◌, ◌≢◌, ◌&&◌, ◌||◌, Bool, true, false, List, [], ◌∷◌, ◌++◌, Option, Some, None, append-nil, refl, ap, ◌∙◌, codes}
use Rattle.std.specs.Prelude.{if◌then◌else◌}
use Rattle.std.specs.Bool.{⊤}
use Rattle.std.specs.Str.{bytes_eq}
use Rattle.clap.specs.Kinds.{Kinds, or_else}
use Rattle.clap.specs.Faults.{settle_fault, use_fault}
use Rattle.clap.specs.Walk.{Row, Rule, Text, at_row, has_row, more_values, settled_rows, used, with_values, without}
use Rattle.clap.specs.declared.builder.value_parser.Reading.{Reading}
use Rattle.clap.specs.declared.parser.matches.ValueSource.TheVariants.{CommandLine}
use Rattle.clap.specs.declared.error.kind.ErrorKind.TheVariants as kind
use Rattle.clap.proofs.OnLiterals.{clap_on_literals}
use Rattle.erm_command_line.specs.CommandLine.{MakeOption, count, sessions, text}
use Rattle.erm_command_line.proofs.Levels.{holding, make, rule_at, shape}

abbrev pub rules : List Rule
rules = (shape make).rules

-- the name of an option that has a value, and the option
abbrev pub name_of : Bool → Text
name_of true = codes "count"
name_of false = codes "sessions"

abbrev pub option_of : Bool → Text → MakeOption
option_of true value = count value
option_of false value = sessions value

abbrev pub rule_of : Bool → Rule
rule_of true = rule_at 0 rules
rule_of false = rule_at 1 rules

abbrev pub text_rule : Rule
text_rule = rule_at 2 rules

abbrev pub id_of : MakeOption → Text
id_of (count value) = codes "count"
id_of (sessions value) = codes "sessions"
id_of text = codes "text"

-- its use, behind the rows that are there
abbrev pub use_of : MakeOption → List Row → List Row
use_of (count value) rows = used (rule_of true) (value ∷ []) rows
use_of (sessions value) rows = used (rule_of false) (value ∷ []) rows
use_of text rows = used text_rule [] rows

-- its row
abbrev pub row : MakeOption → List Row
row option = use_of option []

unfoldable pub rows_of : List MakeOption → List Row
rows_of [] = []
rows_of (option ∷ rest) = row option ++ rows_of rest

-- no row of the option is there when it is used
abbrev pub AreFresh : List Row → List MakeOption → Type 0
AreFresh rows [] = ⊤
AreFresh rows (option ∷ rest) = (has_row (id_of option) rows ≡ false) × AreFresh (rows ++ row option) rest

-- ---- a use puts its row last
pub at_none : (id : Text) (change : Row → List Row) (missing rows : List Row) → has_row id rows ≡ false → at_row id change missing rows ≡ rows ++ missing
at_none id change missing [] none = refl
at_none id change missing (r ∷ rs) none = by (bytes_eq r.id id) none (λ rest. at_none id change missing rs rest)
  where
    by : (b : Bool) → (b || has_row id rs) ≡ false → (has_row id rs ≡ false → at_row id change missing rs ≡ rs ++ missing)
        → (if b then change r ++ rs else r ∷ at_row id change missing rs) ≡ r ∷ rs ++ missing
    by true bad ih = absurd (cc)
    by false rest ih = ap (λ (more : List Row). r ∷ more) (ih rest)

used_at : (id : Text) (how : Reading) (values : List Text) (rows : List Row) → has_row id rows ≡ false
    → with_values id how CommandLine values (without id rows) ≡ rows ++ with_values id how CommandLine values []
used_at id how values rows none =
    ap (λ (r : List Row). with_values id how CommandLine values r) (at_none id (λ _. []) [] rows none ∙ append-nil rows) ∙ at_none id (more_values CommandLine values) _ rows none

pub used_last : (option : MakeOption) (rows : List Row) → has_row (id_of option) rows ≡ false → use_of option rows ≡ rows ++ row option
unfolding clap_on_literals
used_last (count value) rows none = used_at (codes "count") _ (value ∷ []) rows none
used_last (sessions value) rows none = used_at (codes "sessions") _ (value ∷ []) rows none
used_last text rows none = used_at (codes "text") _ (codes "true" ∷ []) rows none

-- ---- a use is refused where a row of the option is there
abbrev pub use_kinds : MakeOption → List Row → Kinds
use_kinds (count value) rows = use_fault false (rule_of true) (value ∷ []) rows
use_kinds (sessions value) rows = use_fault false (rule_of false) (value ∷ []) rows
use_kinds text rows = use_fault false text_rule [] rows

abbrev repeat_kinds : Bool → Kinds
repeat_kinds b = or_else (if b && true then kind.ArgumentConflict ∷ [] else []) []

repeat_none : (b : Bool) → repeat_kinds b ≡ [] → b ≡ false
repeat_none true bad = absurd (cc)
repeat_none false none = refl

pub use_is_fresh : (option : MakeOption) (rows : List Row) → use_kinds option rows ≡ [] → has_row (id_of option) rows ≡ false
unfolding clap_on_literals
use_is_fresh (count value) rows none = repeat_none (has_row (codes "count") rows) none
use_is_fresh (sessions value) rows none = repeat_none (has_row (codes "sessions") rows) none
use_is_fresh text rows none = repeat_none (has_row (codes "text") rows) none

pub fresh_is_used : (option : MakeOption) (rows : List Row) → has_row (id_of option) rows ≡ false → use_kinds option rows ≡ []
unfolding clap_on_literals
fresh_is_used (count value) rows none = ap repeat_kinds none
fresh_is_used (sessions value) rows none = ap repeat_kinds none
fresh_is_used text rows none = ap repeat_kinds none

-- ---- an option that is given its value, and not used yet
abbrev pub Pending : Type 0
Pending = Option (Bool × Text)

abbrev pub pend : Pending → Option (Text × List Text)
pend None = None
pend (Some q) = Some (name_of q.0, q.1 ∷ [])

abbrev pub after : List Row → Pending → List Row
after rows None = rows
after rows (Some q) = rows ++ row (option_of q.0 q.1)

abbrev pub IsFresh : List Row → Pending → Type 0
IsFresh rows None = ⊤
IsFresh rows (Some q) = has_row (name_of q.0) rows ≡ false

abbrev pub pending_kinds : List Row → Option (Text × List Text) → Kinds
pending_kinds rows p = settle_fault rules false (holding rows p)

pub settles : (rows : List Row) (p : Pending) → pending_kinds rows (pend p) ≡ [] → IsFresh rows p × (settled_rows rules (pend p) rows ≡ after rows p)
unfolding clap_on_literals
settles rows None none = (tt, refl)
settles rows (Some (true, value)) none = let fresh = use_is_fresh (count value) rows none in (fresh, used_last (count value) rows fresh)
settles rows (Some (false, value)) none = let fresh = use_is_fresh (sessions value) rows none in (fresh, used_last (sessions value) rows fresh)

pub fresh_settles : (rows : List Row) (p : Pending) → IsFresh rows p → (pending_kinds rows (pend p) ≡ []) × (settled_rows rules (pend p) rows ≡ after rows p)
unfolding clap_on_literals
fresh_settles rows None fresh = (refl, refl)
fresh_settles rows (Some (true, value)) fresh = (fresh_is_used (count value) rows fresh, used_last (count value) rows fresh)
fresh_settles rows (Some (false, value)) fresh = (fresh_is_used (sessions value) rows fresh, used_last (sessions value) rows fresh)

-- an option without its value is not used
pub unvalued : (b : Bool) (rows : List Row) → pending_kinds rows (Some (name_of b, [])) ≢ []
unfolding clap_on_literals
unvalued true rows = λ e. cc
unvalued false rows = λ e. cc
