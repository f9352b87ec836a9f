-- What an invariant that each commit keeps gives of a script that was run on a disk: of its report, and of what a crash leaves.
use Rattle.std.specs.Prelude.{ℕ, List, Option, length}
use Rattle.std.specs.FinMap.{from_entries}
use Rattle.erm_model.specs.Committed.{Committed}
use Rattle.erm_model.specs.Database.{Database, entries_of}
use Rattle.erm_model.specs.Member.{◌∈◌}
use Rattle.erm_ckpt.specs.Recovered.{State}
use Rattle.erm_crash_invariant.specs.Crashes.{KeepsInvariant, RecoversWith}
use Rattle.erm_node.specs.TreeMap.{map_of_rows}
use Rattle.erm_outside.specs.Disk.{Step, Tells, contents}
use Rattle.erm_recover.specs.Waiting.{SinceSettled}
use Rattle.erm_report.specs.declared.answer.Answer.{Answer}
use Rattle.erm_report.specs.declared.line.Line.{Line}
use Rattle.erm_script.specs.declared.script.ScriptLine.{ScriptLine}
use Rattle.erm_good_report.specs.GoodReport.{places_of}
use Rattle.erm_good_report.specs.Phases.{Closed}
use Rattle.erm_good_report.specs.Transactions.{Transaction, steps_of, transactions_of}
use Rattle.erm_invariant.specs.Commits.{AllKeep, EachFrontRuns, SeesSome, transactions_in}
use Rattle.erm_invariant.specs.Invariant.{Lasts}
use Rattle.erm_disk_run.specs.Limits.{Limits}
use Rattle.erm_disk_run.specs.Runs.{WasCutOn, WasRunOn, WasStarvedOn, commits_told}
use Rattle.erm_disk_run.specs.TwoRuns.{HasCommits}

-- Once nothing is pending of what was done before, a crash at any moment leaves a disk that recovers to a map with the invariant.
abbrev pub CrashesKeep : (Database → Type 0) → Option (List Step) → Option (List Step) → Type 0
CrashesKeep Invariant before after = Tells (SinceSettled (KeepsInvariant Invariant)) before after

-- each transaction that these answers and closed sessions tell is answered from a map that has the invariant
abbrev pub AllSee : (Database → Type 0) → List (List ℕ) → List ScriptLine → List Answer → List Closed → Type 0
AllSee Invariant names script answers closed = (t : Transaction) → t ∈ transactions_of (length names) (places_of script answers closed) → SeesSome Invariant (steps_of t)

-- Of a run to its end: the invariant lasts through the commits in the printed order, and the map printed has it; each transaction that is told
-- sees it; a crash at any moment keeps it, and at the end the disk recovers to a map that has it.
pub record RunKeeps (Invariant : Database → Type 0) (limits : Limits) (before after : Option (List Step)) (state : State) (names : List (List ℕ)) (script : List ScriptLine) (lines : List Line)
    (was : WasRunOn limits before after state names script lines) : Type 0 where
  pub lasts : Lasts Invariant (transactions_in was.tight.good.report.order) was.opening.map (from_entries (entries_of was.tight.good.report.pairs))
  pub seen : AllSee Invariant names script was.tight.good.report.answers was.tight.good.report.closed
  pub crashes : CrashesKeep Invariant before after
  pub end : Tells (λ old new. RecoversWith Invariant (contents new)) before after

-- where the map found has an invariant, and each commit of the run keeps it
abbrev pub RunsKeep : (Database → Type 0) → Type 0
RunsKeep Invariant = (limits : Limits) (before after : Option (List Step)) (state : State) (names : List (List ℕ)) (script : List ScriptLine) (lines : List Line)
    (was : WasRunOn limits before after state names script lines) → Invariant (map_of_rows state.rows)
    → AllKeep Invariant (commits_told names script was.tight.good.report.answers was.tight.good.report.closed)
    → RunKeeps Invariant limits before after state names script lines was

-- Of a run that the disk's fault cut off: what was printed up to then sees the invariant, and a crash keeps it.
abbrev pub CutRunsKeep : (Database → Type 0) → Type 0
CutRunsKeep Invariant = (limits : Limits) (before after : Option (List Step)) (state : State) (names : List (List ℕ)) (script : List ScriptLine) (lines : List Line)
    (was : WasCutOn limits before after state names script lines) → Invariant (map_of_rows state.rows) → AllKeep Invariant (commits_told names script was.cut.answers was.closed)
    → AllSee Invariant names script was.cut.answers was.closed × CrashesKeep Invariant before after

-- Of a run for which no memory was left: the commits of its lines are known to no one, but where each of them keeps the invariant a crash does.
abbrev pub StarvedRunsKeep : (Database → Type 0) → Type 0
StarvedRunsKeep Invariant = (limits : Limits) (before after : Option (List Step)) (state : State) (names : List (List ℕ)) (script : List ScriptLine)
    (was : WasStarvedOn limits before after state names script) → Invariant (map_of_rows state.rows) → AllKeep Invariant (commits_told names script was.answers was.closed)
    → CrashesKeep Invariant before after

-- Wherever a run was stopped, what the next one finds on the disk has the invariant too.
abbrev pub NextRunsFind : (Database → Type 0) → Type 0
NextRunsFind Invariant = (commits : List Committed) (from found : State) (place : ℕ) → Invariant (map_of_rows from.rows) → AllKeep Invariant commits
    → EachFrontRuns commits (map_of_rows from.rows) → HasCommits commits from place found → Invariant (map_of_rows found.rows)
