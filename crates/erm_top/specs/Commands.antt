-- What the words ask for.
use Rattle.std.specs.Prelude.{◌<◌, ◌≤◌, ◌++◌, ◌∷◌, [], ℕ, List, codes}
use Rattle.erm_command_line.specs.declared.command.Command.{Command}
use Rattle.erm_command_line.specs.declared.command.Command.TheVariants.{Make}
use Rattle.erm_command_line.specs.declared.command.TheConstants.{MOST_SESSIONS, MOST_TRANSACTIONS}

-- the line that says how the program is used
abbrev pub usage_text : List ℕ
usage_text = codes "usage: erm run | threads | make --count N --sessions K [--text] | recover | audit | checkpoint | ship | follow | replica" ++ 10 ∷ []

-- the numbers of a command are those that it may have
abbrev pub IsSized : Command → Type 0
IsSized (Make transactions sessions as_text) = (0 < transactions) × (transactions ≤ MOST_TRANSACTIONS) × (0 < sessions) × (sessions ≤ MOST_SESSIONS)
IsSized command = Unit {0}
