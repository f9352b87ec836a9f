-- What an invariant that each commit keeps gives of a run so far, and of its log: the laws, as statements.
use Rattle.std.specs.Prelude.{◌≡◌, List, ◌++◌}
use Rattle.erm_model.specs.Database.{Database}
use Rattle.erm_model.specs.Member.{◌∈◌}
use Rattle.erm_block.specs.declared.block.Block.{Block}
use Rattle.erm_node.specs.Sound.{sound_law}
use Rattle.erm_node.specs.TreeMap.{map_of_rows}
use Rattle.erm_report.specs.declared.answer.Answer.{Answer}
use Rattle.erm_script.specs.declared.script.ScriptLine.{ScriptLine}
use Rattle.erm_world.specs.Log.{IsLog, Log, rows_behind}
use Rattle.erm_world.specs.Whole.{IsLogOf}
use Rattle.erm_world.specs.World.{View}
use Rattle.erm_good_report.specs.GoodReport.{places_of}
use Rattle.erm_good_report.specs.Opening.{Opening}
use Rattle.erm_good_report.specs.Phases.{Closed}
use Rattle.erm_good_report.specs.Transactions.{Transaction, history_of, steps_of, transactions_of}
use Rattle.erm_invariant.specs.Commits.{AllKeep, SeesSome}
use Rattle.erm_lines.specs.Executions.{AreClosed, IsCourse, IsOpeningOf}
use Rattle.erm_lines.specs.Laws.{OfCourses}

-- Where the map that a run starts from has an invariant, and each commit that it tells keeps it, each transaction told is answered from a map
-- that has it, whether or not it commits.
abbrev pub CoursesSee : (Database → Type 0) → Type 0
CoursesSee Invariant = OfCourses (λ opening script answers closed told. Invariant opening.map → AllKeep Invariant (history_of told)
    → (t : Transaction) → t ∈ told → SeesSome Invariant (steps_of t))

-- And the rows behind each block of its log stand for a map that has it. A crash leaves the rows behind one of them.
abbrev pub LogsKeep : (Database → Type 0) → Type 0
LogsKeep Invariant = (v t : View) (script : List ScriptLine) (answers : List Answer) (course : IsCourse v script answers t) (closed : List Closed) (opening : Opening)
    → AreClosed course.closing closed → IsOpeningOf v opening → (log : Log) → IsLogOf t log → IsLog sound_law.meets log
    → Invariant opening.map → AllKeep Invariant (history_of (transactions_of v.opening.sessions (places_of script answers closed)))
    → (front rest : List Block) → log.gathered ≡ front ++ rest → Invariant (map_of_rows (rows_behind log.opened.rows front))
