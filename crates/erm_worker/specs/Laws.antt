-- What a worker's session is of an execution at once: its part, from which that of all sessions is made.
use Rattle.std.specs.Prelude.{◌≡◌, ℕ, ◌<◌, ◌≤◌, List, [], ◌∷◌, ◌++◌, filter, length, None}
use Rattle.std.specs.List.{slice_get}
use Rattle.erm_report.specs.declared.answer.Answer.{Answer}
use Rattle.erm_report.specs.declared.answer.Answer.TheVariants as answer
use Rattle.erm_script.specs.declared.script.ScriptLine.{ScriptLine}
use Rattle.erm_world.specs.World.{View}
use Rattle.erm_lines.specs.Executions.{Move, close, line_moves}
use Rattle.erm_beside.specs.Calls.{Passes}
use Rattle.erm_lines_at_once.specs.Answers.{DidEndBeside}
use Rattle.erm_lines_at_once.specs.CutRuns.{IsCutPart}
use Rattle.erm_lines_at_once.specs.Executions.{IsOwnPart, is_own}
use Rattle.erm_worker.specs.Work.{RanLines}

-- the session stands so in the world in which all end, with the claims given up that it has there, and the log came no further by then
pub record IsAtEnd (f : View) (seat : ℕ) (t : View) : Type 0 where
  pub own : t.session seat ≡ f.session seat
  pub given_up : t.given_up seat ≡ f.given_up seat
  pub tail : t.tail ≤ f.tail
  pub flushed : t.flushed ≤ f.flushed

-- of all moves, these are the session's own
abbrev pub HasOwn : ℕ → List Move → List Move → Type 0
HasOwn seat moves own = filter (λ m. is_own seat m) moves ≡ own

-- all its lines were answered, and others went on
abbrev pub WholeWorkIsAPart : Type 0
WholeWorkIsAPart = (f : View) (seat : ℕ) (lines : List ScriptLine) (answers : List Answer) (v u t : View) (moves : List Move) → RanLines f seat lines answers v u
    → length answers ≡ length lines → Passes seat u t → IsAtEnd f seat t → HasOwn seat moves (line_moves lines answers) → IsOwnPart f seat v moves

-- all were answered, and it was closed
abbrev pub ClosedWorkIsAPart : Type 0
ClosedWorkIsAPart = (f : View) (seat : ℕ) (lines : List ScriptLine) (answers : List Answer) (a : Answer) (v u t : View) (moves : List Move) → RanLines f seat lines answers v u
    → length answers ≡ length lines → DidEndBeside seat a u t → IsAtEnd f seat t → HasOwn seat moves (line_moves lines answers ++ close seat a ∷ []) → IsOwnPart f seat v moves

-- the first ones were answered, and it was left
abbrev pub LeftWorkIsACutPart : Type 0
LeftWorkIsACutPart = (f : View) (seat : ℕ) (lines : List ScriptLine) (answers : List Answer) (v t : View) (moves : List Move) → RanLines f seat lines answers v t
    → length answers < length lines → IsAtEnd f seat t → HasOwn seat moves (line_moves lines answers) → IsCutPart f seat (slice_get lines (length answers)) v moves

-- all were answered, and it was aborted, or its snapshot ended, which no line of an execution tells that was cut off
abbrev pub AbortedWorkIsACutPart : Type 0
AbortedWorkIsACutPart = (f : View) (seat : ℕ) (lines : List ScriptLine) (answers : List Answer) (v u t : View) (moves : List Move) → RanLines f seat lines answers v u
    → length answers ≡ length lines → DidEndBeside seat answer.Aborted u t → IsAtEnd f seat t → HasOwn seat moves (line_moves lines answers)
    → IsCutPart f seat None v moves
