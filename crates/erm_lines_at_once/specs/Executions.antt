-- Executions of a script whose sessions run at once: each session has a chain of its own, and all end in one world.
use Rattle.std.specs.Prelude.{◌≡◌, ℕ, ◌==◌, ◌<◌, ◌≤◌, Bool, true, false, List, [], ◌∷◌, ◌++◌, length, map}
use Rattle.std.specs.List.{AllPairs}
use Rattle.erm_model.specs.declared.limits.TheConstants.{LAST_NUMBER}
use Rattle.erm_model.specs.declared.outcome.Phase.TheVariants.{Idle}
use Rattle.erm_model.specs.Member.{◌∈◌}
use Rattle.erm_report.specs.declared.answer.Answer.{Answer}
use Rattle.erm_script.specs.declared.script.ScriptLine.{ScriptLine}
use Rattle.erm_script.specs.Script.{IsInRange}
use Rattle.erm_world.specs.World.{IsSession, View, phase_at}
use Rattle.erm_good_report.specs.Phases.{Closed}
use Rattle.erm_lines.specs.Executions.{IsOpened, Move, close, flush, line, line_moves, log}
use Rattle.erm_beside.specs.Calls.{Passes}
use Rattle.erm_lines_at_once.specs.Answers.{DidEndBeside, DidLineBeside}
use Rattle.erm_lines_at_once.specs.Ends.{IsEnd}

-- a move of the session was made
abbrev pub DidMoveBeside : View → ℕ → Move → View → View → Type 0
DidMoveBeside f seat (line l a) v t = (l.session ≡ seat) × DidLineBeside f l a v t
DidMoveBeside f seat (close at a) v t = (at ≡ seat) × DidEndBeside at a v t
DidMoveBeside f seat (log l a) v t = ⊥
DidMoveBeside f seat flush v t = ⊥

-- whether a move is one of the session
abbrev pub is_own : ℕ → Move → Bool
is_own seat (line l a) = l.session == seat
is_own seat (log l a) = l.session == seat
is_own seat (close at a) = at == seat
is_own seat flush = false

-- a move of another session is none of this one
abbrev pub DidOwn : Bool → View → ℕ → Move → View → View → Type 0
DidOwn true f seat move v t = DidMoveBeside f seat move v t
DidOwn false f seat move v t = t ≡ v

-- Of the moves of all sessions the session's own ones were made in turn, others going on between.
abbrev pub IsOwnRun : View → ℕ → View → List Move → View → Type 0
IsOwnRun f seat v [] t = Passes seat v t
IsOwnRun f seat v (move ∷ moves) t = (u : View) × (w : View) × Passes seat v u × DidOwn (is_own seat move) f seat move u w × IsOwnRun f seat w moves t

-- the moves of lines with their answers, and then those of the sessions closed
abbrev pub all_moves : List ScriptLine → List Answer → List Closed → List Move
all_moves script answers closed = line_moves script answers ++ map (λ c. close c.session c.answer) closed

-- the part of a session in an execution: by its own moves it comes to stand as in the world in which all end, with the claims given up that it has
-- there, and the log hasn't come further than in that
pub record IsOwnPart (f : View) (seat : ℕ) (v : View) (moves : List Move) : Type 0 where
  pub last : View
  pub run : IsOwnRun f seat v moves last
  pub ends : last.session seat ≡ f.session seat
  pub given_up : last.given_up seat ≡ f.given_up seat
  pub within : (last.tail ≤ f.tail) × (last.flushed ≤ f.flushed)

-- An execution of a script, of no more lines than a session may have transactions, whose commands are in range and whose lines are those of
-- sessions: the answers are those of its lines, one for each; then sessions are closed, by seat, so that each is idle in the end.
pub record IsRunAtOnce (v : View) (script : List ScriptLine) (answers : List Answer) (closed : List Closed) (f : View) : Type 0 where
  pub opened : IsOpened v
  pub ranges : (l : ScriptLine) → l ∈ script → IsInRange l.command
  pub few : length script ≤ LAST_NUMBER
  pub each : length answers ≡ length script
  pub named : (l : ScriptLine) → l ∈ script → IsSession v l.session
  pub opening : f.opening ≡ v.opening
  pub ascend : AllPairs (λ a b. a.session < b.session) closed
  pub sessions : (c : Closed) → c ∈ closed → IsSession v c.session
  pub own : (seat : ℕ) → IsSession v seat → IsOwnPart f seat v (all_moves script answers closed)
  pub ends : IsEnd f
  pub idle : (seat : ℕ) → IsSession f seat → phase_at f seat ≡ Idle
