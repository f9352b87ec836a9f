-- The laws by which a run at once ends on a disk as it does.
use Rattle.std.specs.Prelude.{◌≡◌, ◌≤◌, ℕ, None, replicate}
use Rattle.erm_model.specs.Database.{value_at}
use Rattle.erm_model.specs.Rows.{Rows}
use Rattle.erm_model.specs.RowTransaction.{SameRows}
use Rattle.erm_model.specs.declared.TheConstants.{ROW_WORDS}
use Rattle.erm_model.specs.declared.limits.TheConstants.{TABLES}
use Rattle.erm_node.specs.Sound.{IsSound, reached}
use Rattle.erm_node.specs.TreeMap.{map_of_rows}
use Rattle.erm_summary.specs.Tables.{SummariesAreInTables}
use Rattle.erm_works.specs.Cuts.{WorksAreACutRun}
use Rattle.erm_works.specs.Runs.{WorksAreARun}
use Rattle.erm_works.specs.Starved.{WorksAreAStarvedRun}
use Rattle.erm_works.specs.Works.{CompleteWorksAreAll, WorksAreFirst}
use Rattle.erm_disk_at_once.specs.Laws.{CutRunsAtOnceEndOnDisk, OpeningsAreLeft, RunsAtOnceEndOnDisk, StarvedRunsAtOnceEndOnDisk}
use Rattle.erm_run_at_once.specs.Ran.{ScriptsAreSplit, SessionsAreComplete, SessionsDidSomeWorks, SessionsDidWorks, SessionsLeaveLogs}

-- All of them: what is so of sessions that ran, of their answers put together, of what their desk leaves on the disk, and of the rows found.
pub record EndLaws : Type 0 where
  pub split : ScriptsAreSplit
  pub did : SessionsDidWorks
  pub did_some : SessionsDidSomeWorks
  pub complete : SessionsAreComplete
  pub logs : SessionsLeaveLogs
  pub runs : WorksAreARun
  pub cuts : WorksAreACutRun
  pub starved : WorksAreAStarvedRun
  pub first : WorksAreFirst
  pub all : CompleteWorksAreAll
  pub ends : RunsAtOnceEndOnDisk
  pub cut_ends : CutRunsAtOnceEndOnDisk
  pub starved_ends : StarvedRunsAtOnceEndOnDisk
  pub left : OpeningsAreLeft
  pub tables : SummariesAreInTables
  pub maps : (a b : Rows) → SameRows a b → IsSound a → map_of_rows a ≡ map_of_rows b
  pub keys : (rows : Rows) (table key : ℕ) → IsSound rows → TABLES ≤ table → value_at (map_of_rows rows) table key ≡ None
  pub zeros : (rows : Rows) (x : ℕ) → IsSound rows → TABLES ≤ x → rows x ≡ replicate ROW_WORDS 0 → reached rows x ≡ 0
