-- What executions at once owe of the limits: the law, as a statement.
use Rattle.std.specs.Prelude.{◌≡◌, ◌+◌, ◌<◌, ◌≤◌, ℕ, List, Some, length}
use Rattle.std.specs.List.{slice_get}
use Rattle.erm_model.specs.Member.{◌∈◌}
use Rattle.erm_model.specs.declared.limits.TheConstants.{OID_LIMIT}
use Rattle.erm_report.specs.declared.answer.Answer.{Answer}
use Rattle.erm_report.specs.declared.answer.Answer.TheVariants as answer
use Rattle.erm_script.specs.declared.script.ScriptLine.{ScriptLine}
use Rattle.erm_good_report.specs.Opening.{AtOnce, Opening}
use Rattle.erm_world.specs.World.{View}
use Rattle.erm_good_report.specs.Phases.{Closed}
use Rattle.erm_good_report.specs.Refusals.{HasRefusalCause, IsCounted, IsOwn, claims_of, moment_at, total_of}
use Rattle.erm_good_report.specs.Transactions.{Transaction}
use Rattle.erm_good_at_once.specs.CutReports.{moment_in}
use Rattle.erm_lines_at_once.specs.Laws.{OfRunsAtOnce}
use Rattle.erm_lines_at_once.specs.Executions.{IsRunAtOnce}
use Rattle.erm_lines_at_once.specs.Parts.{IsRunInPart, OfRunsInPart}
use Rattle.erm_told_limits.specs.Limits.{IsFull}

-- each answer to a line of a transaction that had no room has its cause
abbrev pub RefusesForRoom : Opening → List ScriptLine → List Answer → List Transaction → Type 0
RefusesForRoom opening script answers told = (i : ℕ) (l : ScriptLine) (a : Answer) → slice_get script i ≡ Some l → slice_get answers i ≡ Some a → IsFull a
    → (t : Transaction) → IsOwn (moment_at AtOnce opening script answers told i l) l.command a t → HasRefusalCause (moment_at AtOnce opening script answers told i l) l.command t a

abbrev pub RunsAtOnceRefuseForRoom : Type 0
RunsAtOnceRefuseForRoom = OfRunsAtOnce (λ opening script answers closed told. RefusesForRoom opening script answers told)

-- The same of an execution that is told in part, where each line of the whole script may have been run in part.
abbrev pub RefusesForRoomIn : Opening → (whole part : List ScriptLine) → List Answer → List Transaction → Type 0
RefusesForRoomIn opening whole part answers told = (i : ℕ) (l : ScriptLine) (a : Answer) → slice_get part i ≡ Some l → slice_get answers i ≡ Some a → IsFull a
    → (t : Transaction) → IsOwn (moment_in opening whole part answers told i l) l.command a t → HasRefusalCause (moment_in opening whole part answers told i l) l.command t a

-- Where an answer tells that cells are full, its count is at the number of the world's cells or above it by one for each seat at most, and the lines of
-- the whole script may claim so many beside those of the objects.
abbrev pub AreCellsFull : View → List ScriptLine → List Answer → Type 0
AreCellsFull v whole answers = (drawn : ℕ) → answer.CellsFull drawn ∈ answers → IsCounted v.opening.cells v.opening.cells drawn × (v.opening.cells < OID_LIMIT + total_of claims_of whole)

abbrev pub RunsInPartFillCells : Type 0
RunsInPartFillCells = (v f : View) (whole part : List ScriptLine) (answers : List Answer) (closed : List Closed) → IsRunInPart v whole part answers closed f → length answers ≤ length part
    → AreCellsFull v whole answers

abbrev pub RunsAtOnceFillCells : Type 0
RunsAtOnceFillCells = (v f : View) (script : List ScriptLine) (answers : List Answer) (closed : List Closed) → IsRunAtOnce v script answers closed f → AreCellsFull v script answers

abbrev pub RunsInPartRefuseForRoom : Type 0
RunsInPartRefuseForRoom = OfRunsInPart (λ opening whole part answers told. RefusesForRoomIn opening whole part answers told)
