-- What runs owe by the tables of their objects, whole or so far: the laws, as statements.
use Rattle.std.specs.Prelude.{◌≡◌, ℕ, ◌+◌, ◌≤◌, List, Some}
use Rattle.std.specs.List.{slice_get}
use Rattle.erm_model.specs.declared.limits.TheConstants.{GREATEST_BLOCK}
use Rattle.erm_report.specs.declared.answer.Answer.{Answer}
use Rattle.erm_report.specs.declared.answer.Answer.TheVariants as answer
use Rattle.erm_script.specs.declared.script.ScriptLine.{ScriptLine}
use Rattle.erm_world.specs.World.{IsSession, View, history_of}
use Rattle.erm_good_report.specs.GoodReport.{places_of}
use Rattle.erm_good_report.specs.Opening.{InTurn, Opening}
use Rattle.erm_good_report.specs.Phases.{Closed}
use Rattle.erm_good_report.specs.Refusals.{HasLogCause, HasRefusalCause, HasSaveCause, HasUnfilledCause, IsOwn, current_of, moment_at, most_end}
use Rattle.erm_good_report.specs.Snapshots.{SnapshotsAgree}
use Rattle.erm_good_report.specs.Stamps.{DrawsUntold}
use Rattle.erm_good_report.specs.Transactions.{Transaction, held_of, progress_of, said_of}
use Rattle.erm_lines.specs.Executions.{AreClosed, IsCourse}
use Rattle.erm_lines.specs.Laws.{OfCourses}
use Rattle.erm_causes.specs.Touched.{AreOfTables, TouchesAll}

-- Each object of a run is of one table, which is that whose tree reaches it at the opening, if one does. Each transaction told has a line
-- of the table of each object that it read, and one that writes in the table of each that it claimed.
abbrev pub RunsTouchTables : Type 0
RunsTouchTables = (v t : View) (script : List ScriptLine) (answers : List Answer) (run : IsCourse v script answers t) (closed : List Closed)
    → AreClosed run.closing closed
    → (table : ℕ → ℕ) × AreOfTables table v.opening.rows
    × ((seat : ℕ) → IsSession v seat → TouchesAll table (history_of t) (progress_of seat (places_of script answers closed)) (t.session seat))

-- an answer that what others did caused: a session's transaction, or the log's words that are not flushed; or an outcome, whose window has its causes
abbrev pub IsForOthers : Answer → Type 0
IsForOthers (answer.WaitSeat seat seen) = Unit {0}
IsForOthers (answer.WaitRing flushed) = Unit {0}
IsForOthers (answer.Owned seat number) = Unit {0}
IsForOthers (answer.Newer stamp) = Unit {0}
IsForOthers (answer.ExcludedEarly succ pred) = Unit {0}
IsForOthers (answer.Committed stamp succ pred) = Unit {0}
IsForOthers (answer.Excluded stamp succ pred) = Unit {0}
IsForOthers a = ⊥

-- each such answer to a line of a transaction has its cause
abbrev pub RefusesForOthers : Opening → List ScriptLine → List Answer → List Transaction → Type 0
RefusesForOthers opening script answers told = (i : ℕ) (l : ScriptLine) (a : Answer) → slice_get script i ≡ Some l → slice_get answers i ≡ Some a → IsForOthers a
    → (t : Transaction) → IsOwn (moment_at InTurn opening script answers told i l) l.command a t
    → HasRefusalCause (moment_at InTurn opening script answers told i l) l.command t a

-- an answer that tells of the log: where it is flushed, or whether the last commit of a session is
abbrev pub IsOfLog : Answer → Type 0
IsOfLog (answer.Durable stamp) = Unit {0}
IsOfLog (answer.NotFlushed flushed) = Unit {0}
IsOfLog answer.NoReceipt = Unit {0}
IsOfLog (answer.Flushed place) = Unit {0}
IsOfLog (answer.Empty place) = Unit {0}
IsOfLog (answer.Unfilled place) = Unit {0}
IsOfLog (answer.Checkpointed place) = Unit {0}
IsOfLog a = ⊥

-- each such answer has its cause
abbrev pub TellsLog : Opening → List ScriptLine → List Answer → List Transaction → Type 0
TellsLog opening script answers told = (i : ℕ) (l : ScriptLine) (a : Answer) → slice_get script i ≡ Some l → slice_get answers i ≡ Some a → IsOfLog a
    → HasLogCause (moment_at InTurn opening script answers told i l) a × HasUnfilledCause (moment_at InTurn opening script answers told i l) l.command a

abbrev pub RunsTellLog : Type 0
RunsTellLog = OfCourses (λ opening script answers closed told. TellsLog opening script answers told)

-- each answer to a line of savepoints has its cause in the lines of its transaction
abbrev pub TellsSaves : Opening → List ScriptLine → List Answer → List Transaction → Type 0
TellsSaves opening script answers told = (i : ℕ) (l : ScriptLine) (a : Answer) → slice_get script i ≡ Some l → slice_get answers i ≡ Some a
    → (t : Transaction) → current_of (moment_at InTurn opening script answers told i l) l.session ≡ Some t → HasSaveCause (held_of t) l.command a

abbrev pub RunsTellSaves : Type 0
RunsTellSaves = OfCourses (λ opening script answers closed told. TellsSaves opening script answers told)

abbrev pub RunsRefuseForOthers : Type 0
RunsRefuseForOthers = OfCourses (λ opening script answers closed told. RefusesForOthers opening script answers told)

-- A commit that waits draws its stamp in reach of the lines up to its own.
abbrev pub DrawsInReach : Opening → List ScriptLine → List Answer → List Transaction → Type 0
DrawsInReach opening script answers told = (i stamp : ℕ) (l : ScriptLine) → slice_get script i ≡ Some l → DrawsUntold told (said_of script answers) i stamp
    → stamp + GREATEST_BLOCK ≤ most_end (moment_at InTurn opening script answers told i l)

abbrev pub RunsDrawInReach : Type 0
RunsDrawInReach = OfCourses (λ opening script answers closed told. DrawsInReach opening script answers told)

-- what a run so far owes of its snapshots
abbrev pub CoursesHaveSafeSnapshots : Type 0
CoursesHaveSafeSnapshots = OfCourses (λ opening script answers closed told. SnapshotsAgree (moment_at InTurn opening script answers told) opening script answers told)
