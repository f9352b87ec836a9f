-- What all sessions did, for some of which memory ran out, as an execution whose lines answered are the first ones of each session.
use Rattle.std.specs.Prelude.{◌≡◌, ℕ, ◌<◌, ◌≤◌, ◌⊎◌, List, length, map, Option, None}
use Rattle.std.specs.List.{AllPairs}
use Rattle.erm_model.specs.declared.limits.TheConstants.{LAST_NUMBER}
use Rattle.erm_model.specs.declared.outcome.Phase.TheVariants.{Sealed}
use Rattle.erm_model.specs.Member.{◌∈◌}
use Rattle.erm_report.specs.declared.answer.Answer.{Answer}
use Rattle.erm_script.specs.declared.script.ScriptLine.{ScriptLine}
use Rattle.erm_script.specs.Script.{IsInRange}
use Rattle.erm_world.specs.World.{IsSession, View}
use Rattle.erm_good_report.specs.Phases.{Closed, Closes}
use Rattle.erm_good_at_once.specs.CutReports.{answered_of}
use Rattle.erm_lines.specs.Executions.{IsOpened, Move}
use Rattle.erm_lines_at_once.specs.CutRuns.{IsCutPart, next_of}
use Rattle.erm_lines_at_once.specs.Ends.{IsEnd}
use Rattle.erm_lines_at_once.specs.Executions.{IsOwnRun, all_moves}
use Rattle.erm_worker.specs.Work.{WasGivenUp}
use Rattle.erm_joined.specs.Merged.{closes_from, counts_of, told_when_cut}
use Rattle.erm_works.specs.Works.{AreSomeWorks, IsSplit}

-- The part of a session for which memory ran out in a line: its moves that are told, from the end of which it was given up, however far its transaction
-- in progress had gone on in this line.
pub record IsShortPart (f : View) (seat : ℕ) (v : View) (moves : List Move) : Type 0 where
  pub last : View
  pub run : IsOwnRun f seat v moves last
  pub gave_up : WasGivenUp (last.session seat) (f.session seat)
  pub within : (last.tail ≤ f.tail) × (last.flushed ≤ f.flushed)

-- it is as in an execution that was cut off, or memory ran out for it in its next line
abbrev pub IsStarvedPart : View → ℕ → Option ScriptLine → View → List Move → Type 0
IsStarvedPart f seat next v moves = IsCutPart f seat next v moves ⊎ IsShortPart f seat v moves

-- An execution of a script at once, for some of whose sessions memory ran out: the answers are those of the first lines of each session. Behind them
-- sessions without another line were decided, by seat, that were sealed.
pub record IsStarvedRunAtOnce (v : View) (script : List ScriptLine) (counts : ℕ → ℕ) (answers : List Answer) (closed : List Closed) (f : View) : Type 0 where
  pub opened : IsOpened v
  pub ranges : (l : ScriptLine) → l ∈ script → IsInRange l.command
  pub few : length script ≤ LAST_NUMBER
  pub each : length answers ≡ length (answered_of counts script)
  pub named : (l : ScriptLine) → l ∈ script → IsSession v l.session
  pub opening : f.opening ≡ v.opening
  pub ascend : AllPairs (λ a b. a.session < b.session) closed
  pub sessions : (c : Closed) → c ∈ closed → IsSession v c.session
  pub decided : (c : Closed) → c ∈ closed → Closes Sealed c.answer × (next_of c.session counts script ≡ None)
  pub own : (seat : ℕ) → IsSession v seat → IsStarvedPart f seat (next_of seat counts script) v (all_moves (answered_of counts script) answers closed)
  pub ends : IsEnd f

-- THE LAW. Wherever sessions were left, and for whichever memory ran out, their answers may be put together, to the first lines of each, and with the
-- sessions that were decided at the end they are such an execution.
abbrev pub WorksAreAStarvedRun : Type 0
WorksAreAStarvedRun = (v f : View) (script : List ScriptLine) (parts : List (List ScriptLine)) (answers : List (List Answer)) (closed : List (Option Answer))
    → IsSplit v script parts → AreSomeWorks v f parts answers closed
    → (merged : List Answer) × IsStarvedRunAtOnce v script (counts_of answers) merged (closes_from 1 (map told_when_cut closed)) f
