-- The answers to a script, and those to the lines of one session.
use Rattle.std.specs.Prelude.{◌≡◌, ℕ, ◌==◌, if◌then◌else◌, List, [], ◌∷◌, ◌++◌, filter, map}
use Rattle.erm_report.specs.declared.answer.Answer.{Answer}
use Rattle.erm_script.specs.declared.script.ScriptLine.{ScriptLine}
use Rattle.erm_good_report.specs.Phases.{Closed}
use Rattle.erm_lines.specs.Executions.{close, line_moves}
use Rattle.erm_lines_at_once.specs.Executions.{all_moves, is_own}
use Rattle.erm_threads.specs.Parts.{own_lines}

-- of answers to these lines, those to a session's own, in order
abbrev pub own_answers : ℕ → List ScriptLine → List Answer → List Answer
own_answers seat [] answers = []
own_answers seat (l ∷ ls) [] = []
own_answers seat (l ∷ ls) (a ∷ answers) = if l.session == seat then a ∷ own_answers seat ls answers else own_answers seat ls answers

-- of all moves, a session's own are its own lines with their answers, and its closing
abbrev pub OwnMovesAreOfOwnLines : Type 0
OwnMovesAreOfOwnLines = (seat : ℕ) (script : List ScriptLine) (answers : List Answer) (closed : List Closed)
    → filter (λ m. is_own seat m) (all_moves script answers closed)
    ≡ line_moves (own_lines seat script) (own_answers seat script answers) ++ map (λ c. close c.session c.answer) (filter (λ c. c.session == seat) closed)
