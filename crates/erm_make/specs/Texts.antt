-- The text of a script.
use Rattle.std.specs.Prelude.{ℕ, zero, suc, Bool, true, false, not, List, [], ◌∷◌, ◌++◌, slice_index_or}
use Rattle.std.specs.List.{filter, flat_map}
use Rattle.erm_script.specs.declared.script.Command.{Command}
use Rattle.erm_script.specs.declared.script.Command.TheVariants.{Flush}
use Rattle.erm_script.specs.declared.script.ScriptLine.{ScriptLine}
use Rattle.erm_script.specs.Keywords.{word_of}
use Rattle.erm_script.specs.Script.{given_words, keyword_of}
use Rattle.erm_make.specs.Workload.{Request}

-- the name of a line's session and a space, where the line names one
abbrev pub session_text : List (List ℕ) → ℕ → List ℕ
session_text names zero = []
session_text names (suc place) = slice_index_or names place [] ++ 32 ∷ []

-- words, each behind a space
abbrev pub spaced : List (List ℕ) → List ℕ
spaced words = flat_map (λ word. 32 ∷ word) words

-- a line, without its end
abbrev pub line_text : List (List ℕ) → ℕ → Command → List ℕ
line_text names session command = session_text names session ++ word_of (keyword_of command) ++ spaced (given_words command)

-- the lines of a script, each with its end
abbrev pub script_text : List (List ℕ) → List ScriptLine → List ℕ
script_text names lines = flat_map (λ l. line_text names l.session l.command ++ 10 ∷ []) lines

-- whether a command asks for a flush
abbrev pub is_flush : Command → Bool
is_flush Flush = true
is_flush command = false

-- what is left of lines, or of what they ask for, without those that ask for a flush
abbrev pub lines_but_flushes : List ScriptLine → List ScriptLine
lines_but_flushes lines = filter (λ l. not (is_flush l.command)) lines

abbrev pub requests_but_flushes : List Request → List Request
requests_but_flushes requests = filter (λ r. not (is_flush r.1)) requests
