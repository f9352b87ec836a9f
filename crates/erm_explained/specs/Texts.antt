-- The text that tells causes.
use Rattle.std.specs.Prelude.{ℕ, ◌-◌, List, [], ◌∷◌, ◌++◌, Option, Some, None, codes}
use Rattle.std.specs.List.{slice_get}
use Rattle.std.specs.Fmt.{decimal}
use Rattle.std.specs.Option.{option_map_or}
use Rattle.erm_script.specs.declared.script.Command.{Command}
use Rattle.erm_script.specs.declared.script.Command.TheVariants as command
use Rattle.erm_script.specs.declared.script.ScriptLine.{ScriptLine}
use Rattle.erm_explain.specs.declared.cause.Cause.{Cause}
use Rattle.erm_explain.specs.declared.cause.Cause.TheVariants.{Itself, Line, Window, Missing}
use Rattle.erm_explain.specs.declared.links.Link.{Link}

-- a word with a table and a key
abbrev pub keyed_text : List ℕ → ℕ → ℕ → List ℕ
keyed_text word table key = word ++ decimal table ++ codes " " ++ decimal key

-- a command with its table and its keys, if it names any
abbrev pub command_text : Command → List ℕ
command_text (command.Get table key) = keyed_text (codes " get ") table key
command_text (command.Put table key value) = keyed_text (codes " put ") table key
command_text (command.Del table key) = keyed_text (codes " del ") table key
command_text (command.Next table from) = keyed_text (codes " next ") table from
command_text (command.Scan table low high) = keyed_text (codes " scan ") table low ++ codes " " ++ decimal high
command_text (command.Tidy table key) = keyed_text (codes " tidy ") table key
command_text c = []

-- the name of a session
abbrev pub name_text : List (List ℕ) → ℕ → List ℕ
name_text names session = option_map_or (λ name. name) (slice_get names (session - 1)) []

-- the line at a place, if one is there: its number, its session's name, and what it asks for
abbrev pub mention_text : List (List ℕ) → Option ScriptLine → List ℕ
mention_text names None = []
mention_text names (Some l) = codes " line " ++ decimal l.line ++ codes " (" ++ name_text names l.session ++ command_text l.command ++ codes ")"

abbrev pub mention_at : List (List ℕ) → List ScriptLine → ℕ → List ℕ
mention_at names script place = mention_text names (slice_get script place)

-- the line that writes where another one goes
abbrev pub writer_text : List (List ℕ) → List ScriptLine → ScriptLine → Link → List ℕ
writer_text names script l link = decimal l.line ++ codes ":" ++ mention_at names script link.other ++ codes " writes there" ++ 10 ∷ []

-- the two lines of a link, with words between
abbrev pub link_text : List (List ℕ) → List ScriptLine → Link → List ℕ → List ℕ
link_text names script link words = mention_at names script link.other ++ words ++ mention_at names script link.own

-- the lines that close a window: the number of the line that was refused, what must come behind, and what must come before
abbrev pub start_text : ScriptLine → List ℕ
start_text l = decimal l.line ++ codes ":"

abbrev pub end_text : List (List ℕ) → List ScriptLine → Link → List ℕ
end_text names script before = codes ", and" ++ link_text names script before (codes " comes before") ++ 10 ∷ []

abbrev pub window_text : List (List ℕ) → List ScriptLine → ScriptLine → Link → Link → List ℕ
window_text names script l after before =
    start_text l ++ link_text names script after (codes " overwrites what is touched by") ++ end_text names script before

-- the cause of a line's refusal: the lines that it names
abbrev pub cause_text : List (List ℕ) → List ScriptLine → ScriptLine → Cause → List ℕ
cause_text names script l Itself = []
cause_text names script l (Line link) = writer_text names script l link
cause_text names script l (Window after before) = window_text names script l after before
cause_text names script l Missing = decimal l.line ++ codes ": the report has no cause" ++ 10 ∷ []
