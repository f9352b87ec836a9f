-- What a report owes of the limits, as statements on runs of scripts.
use Rattle.std.specs.Prelude.{◌≡◌, ℕ, ◌+◌, ◌*◌, ◌<◌, ◌≤◌, min, List, length, sum_by, Some}
use Rattle.std.specs.List.{slice_get}
use Rattle.erm_model.specs.declared.limits.TheConstants.{GREATEST_BLOCK, OID_LIMIT, WRITE_LIMIT}
use Rattle.erm_model.specs.Member.{◌∈◌}
use Rattle.erm_report.specs.declared.answer.Answer.{Answer}
use Rattle.erm_report.specs.declared.answer.Answer.TheVariants as answer
use Rattle.erm_script.specs.declared.script.ScriptLine.{ScriptLine}
use Rattle.erm_script.specs.Script.{IsInRange}
use Rattle.erm_world.specs.World.{IsSession, View, work_at}
use Rattle.erm_good_report.specs.Opening.{Opening, InTurn}
use Rattle.erm_good_report.specs.Refusals.{HasLogCause, HasRefusalCause, IsCounted, IsInReach, IsOwn, Moment, claims_of, draws_of, moment_at, total_of}
use Rattle.erm_good_report.specs.Transactions.{Transaction, progress_of, said_of}
use Rattle.erm_lines.specs.Executions.{IsCourse, IsExecution, IsOpened, IsOpeningOf, line_moves}

-- the arguments of each line are in range
abbrev pub AreInRange : List ScriptLine → Type 0
AreInRange script = (l : ScriptLine) → l ∈ script → IsInRange l.command

-- a fact of each line of a run so far that has such an answer, at its moment, whatever all transactions are
abbrev pub OfLines : (Answer → Type 0) → (Moment → ScriptLine → Answer → Type 0) → Type 0
OfLines Kind Fact = (v t : View) (script : List ScriptLine) (answers : List Answer) → IsCourse v script answers t → (opening : Opening) → IsOpeningOf v opening
    → (all : List Transaction) (i : ℕ) (l : ScriptLine) (a : Answer) → slice_get script i ≡ Some l → slice_get answers i ≡ Some a → Kind a → Fact (moment_at InTurn opening script answers all i l) l a

-- the answers to a line that had no room: for reads, claims, cells or objects
abbrev pub IsFull : Answer → Type 0
IsFull answer.ReadsFull = Unit {0}
IsFull answer.WritesFull = Unit {0}
IsFull (answer.CellsFull drawn) = Unit {0}
IsFull (answer.OidsFull drawn) = Unit {0}
IsFull a = ⊥

-- a refusal for want of room has its cause
abbrev pub FullHasCause : Type 0
FullHasCause = OfLines IsFull (λ m l a. (t : Transaction) → IsOwn m l.command a t → HasRefusalCause m l.command t a)

-- Where an answer of a run so far tells that cells are full, its count is at the number of its world's cells or above it by one for each seat at most, and
-- the script's lines may claim as many as they are beside those of the objects.
abbrev pub CellsAreFull : Type 0
CellsAreFull = (v t : View) (script : List ScriptLine) (answers : List Answer) → IsCourse v script answers t → (drawn : ℕ) → answer.CellsFull drawn ∈ answers
    → IsCounted v.opening.cells v.opening.cells drawn × (v.opening.cells < OID_LIMIT + total_of claims_of script)

-- the answers that tell that the log is at its end, or a session's numbers
abbrev pub IsEnd : Answer → Type 0
IsEnd (answer.LogEnd tail) = Unit {0}
IsEnd answer.NumbersEnd = Unit {0}
IsEnd a = ⊥

-- each of these has its cause
abbrev pub EndHasCause : Type 0
EndHasCause = OfLines IsEnd (λ m l a. HasLogCause m a)

-- the begin and the stamp that a line tells are no further on than the lines so far may have moved the log
abbrev pub StampsAreInReach : Type 0
StampsAreInReach = OfLines (λ a. Unit {0}) (λ m l a. IsInReach m l.command a)

-- After some lines of an execution the log's end is no further on than these lines may have moved it.
abbrev pub EndsAreInReach : Type 0
EndsAreInReach = (v u : View) (script : List ScriptLine) (answers : List Answer) → IsOpened v → IsExecution v (line_moves script answers) u
    → u.tail ≤ v.opening.tail + GREATEST_BLOCK * total_of draws_of script

-- After some lines of an execution a session's transaction that isn't over has claimed few objects, and no more than its lines so far may.
abbrev pub ClaimsAreFew : Type 0
ClaimsAreFew = (v u : View) (script : List ScriptLine) (answers : List Answer) → IsOpened v → IsExecution v (line_moves script answers) u
    → (seat : ℕ) (t : Transaction) → IsSession u seat → (progress_of seat (said_of script answers)).current ≡ Some t
    → length (work_at u seat).claims ≤ min WRITE_LIMIT (sum_by (λ e. claims_of e.asked) t.lines)
