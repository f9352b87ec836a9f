-- What sessions did on threads, as works in the world in which all ended, and the log of that world: the laws, as statements.
use Rattle.std.specs.Prelude.{◌≡◌, ℕ, ◌≤◌, ◌++◌, Bool, false, List, length, map, slice_get, Option, Some}
use Rattle.erm_model.specs.declared.limits.TheConstants.{SESSIONS}
use Rattle.erm_node.specs.Sound.{sound_law}
use Rattle.erm_outside.specs.Disk.{Step}
use Rattle.erm_report.specs.declared.answer.Answer.{Answer}
use Rattle.erm_script.specs.declared.script.ScriptLine.{ScriptLine}
use Rattle.erm_world.specs.Laws.{IsSerializable}
use Rattle.erm_world.specs.Log.{place_behind}
use Rattle.erm_rule.specs.declared.view.Book.{Book}
use Rattle.erm_rule.specs.declared.view.Opening.{Opening}
use Rattle.erm_rule.specs.Openings.{start_of}
use Rattle.erm_desk.specs.Desk.{IsDesk, Sees}
use Rattle.erm_engine.specs.Ended.{world_of}
use Rattle.erm_engine.specs.Opened.{opened_view}
use Rattle.erm_threads.specs.Parts.{AreParts}
use Rattle.erm_works.specs.Works.{AreComplete, AreSomeWorks, AreWorks, IsSplit}
use Rattle.erm_run_beside.specs.declared.work.SessionWork.{SessionWork}
use Rattle.erm_run_beside.specs.Runs.{HaveRun}
use Rattle.erm_disk_at_once.specs.Desks.{HasLogged}
use Rattle.erm_disk_at_once.specs.Runs.{IsScriptAtOnce}

-- the answers of sessions, by seat from 1 on
abbrev pub answers_of : List SessionWork → List (List Answer)
answers_of works = map (λ w. w.answers.items) works

-- how each was closed
abbrev pub closes_of : List SessionWork → List (Option Answer)
closes_of works = map (λ w. w.closed) works

-- memory sufficed each
abbrev pub NoneLacked : List SessionWork → Type 0
NoneLacked works = (k : ℕ) (w : SessionWork) → slice_get works k ≡ Some w → w.lacked ≡ false

-- A script's lines, by session, are the script split in the world as it was opened.
abbrev pub ScriptsAreSplit : Type 0
ScriptsAreSplit = (o : Opening) (names : List (List ℕ)) (script : List ScriptLine) (parts : List (List ScriptLine)) → IsSerializable sound_law (opened_view (start_of o))
    → IsScriptAtOnce names script → AreParts (λ p. p) (length names) script parts → IsSplit (opened_view (start_of o)) script parts

-- Sessions that ran beside one another, and none of which lacked memory, did their works in the world in which all ended.
abbrev pub SessionsDidWorks : Type 0
SessionsDidWorks = (o : Opening) (failed : Bool) (desk : Book) (parts : List (List ScriptLine)) (works : List SessionWork) → (ran : HaveRun sound_law o failed desk parts works)
    → NoneLacked works → length parts ≤ SESSIONS → AreWorks (opened_view (start_of o)) (world_of ran.core) parts (answers_of works) (closes_of works)

-- Whether memory sufficed each or not, they did their works there, or some of them.
abbrev pub SessionsDidSomeWorks : Type 0
SessionsDidSomeWorks = (o : Opening) (failed : Bool) (desk : Book) (parts : List (List ScriptLine)) (works : List SessionWork) → (ran : HaveRun sound_law o failed desk parts works)
    → length parts ≤ SESSIONS → AreSomeWorks (opened_view (start_of o)) (world_of ran.core) parts (answers_of works) (closes_of works)

-- Where the disk hasn't failed each of these works is complete, and all of the log is flushed.
abbrev pub SessionsAreComplete : Type 0
SessionsAreComplete = (o : Opening) (desk : Book) (parts : List (List ScriptLine)) (works : List SessionWork) → (ran : HaveRun sound_law o false desk parts works)
    → NoneLacked works → AreComplete (world_of ran.core) parts (answers_of works) × ((world_of ran.core).flushed ≡ (world_of ran.core).tail)

-- The world in which all ended has a log, whose blocks are the desk's: those flushed, as far as which it is flushed, and those tried at a turn at which the
-- disk failed.
abbrev pub SessionsLeaveLogs : Type 0
SessionsLeaveLogs = (o : Opening) (began : Option (List Step)) (faults : ℕ) (d : Sees) (parts : List (List ScriptLine)) (works : List SessionWork)
    → (desk : IsDesk sound_law (start_of o) began faults d) → (ran : HaveRun sound_law o d.failed d.book parts works)
    → HasLogged (start_of o) (desk.blocks ++ desk.tried) (world_of ran.core) × ((world_of ran.core).flushed ≡ place_behind (start_of o).tail desk.blocks)
