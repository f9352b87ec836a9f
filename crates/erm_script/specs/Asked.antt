-- What one line asks for.
use Rattle.std.specs.Prelude.{◌≡◌, ℕ, ◌<◌, ◌≤◌, List, ◌∷◌, [], ◌++◌, length}
use Rattle.erm_script.specs.declared.grammar.Grammar.{Grammar}
use Rattle.erm_script.specs.declared.script.ScriptLine.{ScriptLine}
use Rattle.erm_script.specs.declared.script.TheConstants.{NO_SESSION}
use Rattle.erm_script.specs.declared.parser.line.Asked.{Asked}
use Rattle.erm_script.specs.declared.parser.line.Asked.TheVariants.{OfSession, Alone}
use Rattle.erm_model.specs.Member.{◌∈◌}
use Rattle.erm_script.specs.Script.{Spells, SpellsAlone}
use Rattle.erm_script.specs.Seats.{IsSeatOf}

-- a line spells this, after lines that named these sessions
abbrev pub Asks : Grammar → List ℕ → List (List ℕ) → Asked → Type 0
Asks g line names (OfSession name seat command) = Spells g line name command × IsSeatOf g.sessions name names seat
Asks g line names (Alone command) = SpellsAlone g line command

-- the name of a session is added where its seat is behind those of the names
pub record AddsName (name : List ℕ) (seat : ℕ) (names after : List (List ℕ)) : Type 0 where
  pub next : length names < seat → after ≡ names ++ name ∷ []
  pub known : seat ≤ length names → after ≡ names

-- where the seat of the session that a line names is behind those of the names, its name is none of them
abbrev pub IsNewWhereAdded : Asked → List (List ℕ) → Type 0
IsNewWhereAdded (OfSession name seat command) names = length names < seat → name ∈ names → ⊥
IsNewWhereAdded (Alone command) names = Unit {0}

-- what a line asks for is added to a script's names and lines
abbrev pub Adds : ℕ → Asked → List (List ℕ) → List ScriptLine → List (List ℕ) → List ScriptLine → Type 0
Adds number (OfSession name seat command) names lines after more =
    AddsName name seat names after × (more ≡ lines ++ record { line = number; session = seat; command = command } ∷ [])
Adds number (Alone command) names lines after more =
    (after ≡ names) × (more ≡ lines ++ record { line = number; session = NO_SESSION; command = command } ∷ [])
