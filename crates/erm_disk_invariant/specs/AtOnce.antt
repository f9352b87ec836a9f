-- What an invariant that each commit keeps gives of a script whose sessions ran at once on a disk.
use Rattle.std.specs.Prelude.{ℕ, List, Option}
use Rattle.std.specs.FinMap.{from_entries}
use Rattle.erm_model.specs.Database.{Database, entries_of}
use Rattle.erm_ckpt.specs.Recovered.{State}
use Rattle.erm_crash_invariant.specs.Crashes.{RecoversWith}
use Rattle.erm_node.specs.TreeMap.{map_of_rows}
use Rattle.erm_outside.specs.Disk.{Step, Tells, contents}
use Rattle.erm_report.specs.declared.line.Line.{Line}
use Rattle.erm_script.specs.declared.script.ScriptLine.{ScriptLine}
use Rattle.erm_good_at_once.specs.CutReports.{answered_of}
use Rattle.erm_invariant.specs.Commits.{AllKeep, transactions_in}
use Rattle.erm_invariant.specs.Invariant.{Lasts}
use Rattle.erm_disk_run.specs.Runs.{commits_told}
use Rattle.erm_disk_at_once.specs.Runs.{WasCutAtOnce, WasRunAtOnce}
use Rattle.erm_disk_invariant.specs.Runs.{AllSee, CrashesKeep}

-- Of a run to its end: the invariant lasts through the commits in the printed order, and the map printed has it; each transaction that is told sees it; a
-- crash at any moment keeps it, and at the end the disk recovers to a map that has it.
pub record RunAtOnceKeeps (Invariant : Database → Type 0) (before after : Option (List Step)) (state : State) (names : List (List ℕ)) (script : List ScriptLine) (lines : List Line)
    (was : WasRunAtOnce before after state names script lines) : Type 0 where
  pub lasts : Lasts Invariant (transactions_in was.good.good.report.order) was.opening.map (from_entries (entries_of was.good.good.report.pairs))
  pub seen : AllSee Invariant names script was.good.good.report.answers was.good.good.report.closed
  pub crashes : CrashesKeep Invariant before after
  pub end : Tells (λ old new. RecoversWith Invariant (contents new)) before after

-- where the map found has an invariant, and each commit of the run keeps it
abbrev pub RunsAtOnceKeep : (Database → Type 0) → Type 0
RunsAtOnceKeep Invariant = (before after : Option (List Step)) (state : State) (names : List (List ℕ)) (script : List ScriptLine) (lines : List Line)
    (was : WasRunAtOnce before after state names script lines) → Invariant (map_of_rows state.rows)
    → AllKeep Invariant (commits_told names script was.good.good.report.answers was.good.good.report.closed)
    → RunAtOnceKeeps Invariant before after state names script lines was

-- Of a run that the disk's fault cut off: what was printed up to then sees the invariant, and a crash keeps it.
abbrev pub CutRunsAtOnceKeep : (Database → Type 0) → Type 0
CutRunsAtOnceKeep Invariant = (before after : Option (List Step)) (state : State) (names : List (List ℕ)) (script : List ScriptLine) (lines : List Line)
    (was : WasCutAtOnce before after state names script lines) → Invariant (map_of_rows state.rows)
    → AllKeep Invariant (commits_told names (answered_of was.cut.counts script) was.cut.answers was.cut.closed)
    → AllSee Invariant names (answered_of was.cut.counts script) was.cut.answers was.cut.closed × CrashesKeep Invariant before after
