-- A script split into the lines of its sessions.
use Rattle.std.specs.Prelude.{◌≡◌, ℕ, ◌+◌, ◌<◌, ◌≤◌, ◌==◌, List, filter, length, slice_index_or}
use Rattle.erm_script.specs.declared.script.ScriptLine.{ScriptLine}

-- the line is one of so many sessions
abbrev pub IsSeatOf : ℕ → ScriptLine → Type 0
IsSeatOf sessions l = (1 ≤ l.session) × (l.session ≤ sessions)

-- the lines of a session, in order
abbrev pub own_lines : ℕ → List ScriptLine → List ScriptLine
own_lines seat lines = filter (λ l. l.session == seat) lines

-- There is a part for each session, which has the session's lines: so each line is in one part.
pub record AreParts {X : Type 0} (items : X → List ScriptLine) (sessions : ℕ) (script : List ScriptLine) (parts : List X) : Type 0 where
  pub many : length parts ≡ sessions
  pub own : (k : ℕ) (d : X) → k < length parts → items (slice_index_or parts k d) ≡ own_lines (k + 1) script
