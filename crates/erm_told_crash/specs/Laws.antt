-- What the log of a run tells of its database map: the laws, as statements.
use Rattle.std.specs.Prelude.{◌≡◌, ℕ, ◌+◌, ◌<◌, ◌≤◌, List, ◌++◌}
use Rattle.erm_model.specs.Member.{◌∈◌}
use Rattle.erm_model.specs.Committed.{Committed, IsStateBelow, rank_of, state_after}
use Rattle.erm_model.specs.Database.{Database}
use Rattle.erm_model.specs.SerialOrder.{IsSerialOrder}
use Rattle.erm_block.specs.declared.block.Block.{Block}
use Rattle.erm_node.specs.Sound.{sound_law}
use Rattle.erm_node.specs.TreeMap.{map_of_rows}
use Rattle.erm_report.specs.declared.answer.Answer.{Answer}
use Rattle.erm_script.specs.declared.script.ScriptLine.{ScriptLine}
use Rattle.erm_world.specs.Log.{IsLog, Log, gathered_to, place_behind, rows_behind}
use Rattle.erm_world.specs.Whole.{IsLogOf}
use Rattle.erm_world.specs.World.{HasStamp, IsSession, View, Work, size_of}
use Rattle.erm_good_report.specs.GoodReport.{places_of}
use Rattle.erm_good_report.specs.Opening.{Opening}
use Rattle.erm_good_report.specs.Phases.{Closed, Closes, phase_of}
use Rattle.erm_good_report.specs.Transactions.{Said, history_of, said_of, transactions_of}
use Rattle.erm_lines.specs.Executions.{AreClosed, IsCourse, IsExecution, IsOpened, IsOpeningOf, IsRun, Move}
use Rattle.erm_told_order.specs.Told.{IsTold, told_in}

-- The ranges of the log that sessions' transactions take from their commit stamps on: of two, the one with the smaller stamp ends at
-- or below the other's; and each ends within the log.
pub record StandApart (v : View) : Type 0 where
  pub apart : (p q : ℕ) (w u : Work) (a b : ℕ) → IsSession v p → IsSession v q → HasStamp v p w a → HasStamp v q u b → a < b → a + size_of w ≤ b
  pub within : (seat : ℕ) (w : Work) (stamp : ℕ) → IsSession v seat → HasStamp v seat w stamp → stamp + size_of w ≤ v.tail

-- after any moves from a world that was just opened the ranges stand apart
abbrev pub RangesStandApart : Type 0
RangesStandApart = (v t : View) (moves : List Move) → IsOpened v → IsExecution v moves t → StandApart t

-- Where what was said tells a world whose ranges stand apart: at each block of its log, the rows behind it stand for the state, as it is told, below
-- the place behind it.
abbrev pub ToldTellStates : Type 0
ToldTellStates = (f : View) (said : List Said) → IsTold f said → StandApart f → (opening : Database) → opening ≡ map_of_rows f.opening.rows
    → (log : Log) → IsLogOf f log → IsLog sound_law.meets log → (front rest : List Block) → log.gathered ≡ front ++ rest
    → IsStateBelow (history_of (told_in f said)) opening (place_behind log.opened.at front) (map_of_rows (rows_behind log.opened.rows front))

-- where its log is gathered to its end, the rows behind it stand for the state after all commits told, in the serial order
abbrev pub ToldTellAll : Type 0
ToldTellAll = (f : View) (said : List Said) → IsTold f said → StandApart f → (opening : Database) → opening ≡ map_of_rows f.opening.rows
    → (log : Log) → IsLogOf f log → IsLog sound_law.meets log → gathered_to log ≡ log.tail
    → (order : List Committed) → IsSerialOrder rank_of (history_of (told_in f said)) order
    → map_of_rows (rows_behind log.opened.rows log.gathered) ≡ state_after order opening

-- at each block of the log of a run so far, the rows behind it stand for the state, as its answers and the sessions closed tell it, below the
-- place behind it
abbrev pub CoursesTellStates : Type 0
CoursesTellStates = (v t : View) (script : List ScriptLine) (answers : List Answer) (course : IsCourse v script answers t) (closed : List Closed) (opening : Opening)
    → AreClosed course.closing closed → IsOpeningOf v opening → (log : Log) → IsLogOf t log → IsLog sound_law.meets log
    → (front rest : List Block) → log.gathered ≡ front ++ rest
    → IsStateBelow (history_of (transactions_of v.opening.sessions (places_of script answers closed))) opening.map (place_behind log.opened.at front)
    (map_of_rows (rows_behind log.opened.rows front))

-- the sessions that a run so far closed can be listed, and each was closed as the answers leave it
abbrev pub CoursesClose : Type 0
CoursesClose = (v t : View) (script : List ScriptLine) (answers : List Answer) (course : IsCourse v script answers t)
    → (closed : List Closed) × AreClosed course.closing closed
    × ((c : Closed) → c ∈ closed → (0 < c.session) × (c.session ≤ v.opening.sessions) × Closes (phase_of c.session (said_of script answers)) c.answer)

-- where the log of a run is gathered to its end, the rows behind it stand for the state after all commits that the report tells, in
-- the serial order
abbrev pub RunsTellAll : Type 0
RunsTellAll = (v t : View) (script : List ScriptLine) (answers : List Answer) (run : IsRun v script answers t) (closed : List Closed) (opening : Opening)
    → AreClosed run.closing closed → IsOpeningOf v opening → (log : Log) → IsLogOf t log → IsLog sound_law.meets log → gathered_to log ≡ log.tail
    → (order : List Committed) → IsSerialOrder rank_of (history_of (transactions_of v.opening.sessions (places_of script answers closed))) order
    → map_of_rows (rows_behind log.opened.rows log.gathered) ≡ state_after order opening.map
