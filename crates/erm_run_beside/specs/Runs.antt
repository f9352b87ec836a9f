-- What is so once sessions have run on threads, and the table is closed.
use Rattle.std.specs.Prelude.{◌≡◌, ℕ, ◌+◌, ◌<◌, ◌≤◌, Bool, false, List, [], length, Some, Option, vec_capacity}
use Rattle.std.specs.List.{slice_get}
use Rattle.erm_model.specs.declared.limits.TheConstants.{SESSIONS}
use Rattle.erm_model.specs.declared.outcome.Phase.TheVariants.{Active, Sealed}
use Rattle.erm_model.specs.RowTransaction.{Law}
use Rattle.erm_machine.specs.Core.{Core}
use Rattle.erm_script.specs.declared.script.ScriptLine.{ScriptLine}
use Rattle.erm_rule.specs.declared.view.Book.{Book}
use Rattle.erm_rule.specs.declared.view.Opening.{Opening}
use Rattle.erm_rule.specs.Openings.{start_of}
use Rattle.erm_outside.specs.Disk.{Step}
use Rattle.erm_world.specs.Laws.{IsSerializable}
use Rattle.erm_world.specs.World.{IsSession, View, phase_at}
use Rattle.erm_worker.specs.Laws.{IsAtEnd}
use Rattle.erm_threads.specs.Work.{DidSome, DidWork}
use Rattle.erm_engine.specs.Ended.{HasClosed, IsUntouched, world_of}
use Rattle.erm_engine.specs.Opened.{opened_view}
use Rattle.erm_desk.specs.Desk.{IsDesk}
use Rattle.erm_threads.specs.declared.job.Done.{Done}
use Rattle.erm_run_beside.specs.declared.apart.Apart.{Apart}
use Rattle.erm_run_beside.specs.declared.work.SessionWork.{SessionWork}

-- the work of a session after its worker
abbrev pub work_of : {S : Type 0} → Done S → SessionWork
work_of d = record { answers = d.answers; closed = d.closed; lacked = d.lacked }

-- it has no session yet, and room for so many
pub record IsRoomFor {S : Type 0} (many : ℕ) (a : Apart S) : Type 0 where
  pub no_session : a.sessions.items ≡ []
  pub no_work : a.works.items ≡ []
  pub sessions : many ≤ vec_capacity a.sessions
  pub works : many ≤ vec_capacity a.works

-- A session with these lines stands in this world as it was left, which wasn't with a transaction in progress. It did its work, from the world as it was
-- opened, or some of it, where memory ran out: and all of it, unless the disk failed too, so that it doesn't wait.
pub record IsWork (failed : Bool) (f : View) (seat : ℕ) (v : View) (lines : List ScriptLine) (w : SessionWork) : Type 0 where
  pub last : View
  pub at_end : IsAtEnd f seat last
  pub rests : phase_at last seat ≡ Active → ⊥
  pub most : length w.answers.items ≤ length lines
  pub did : w.lacked ≡ false → DidWork f seat lines w.answers.items w.closed v last
  pub some : DidSome f seat lines w.answers.items w.closed v last
  pub whole : failed ≡ false → w.lacked ≡ false → (length w.answers.items ≡ length lines) × (phase_at last seat ≡ Sealed → ⊥)

-- THE END. There is one state in which the table of this opening was closed, to which the desk's book leads on, and each session did its work in the
-- world that it shows. Nothing was done in the sessions behind these. Where no session waits, and the disk hasn't failed, all of the log is flushed.
pub record HaveRun (law : Law) (o : Opening) (failed : Bool) (desk : Book) (parts : List (List ScriptLine)) (works : List SessionWork) : Type 0 where
  pub core : Core
  pub tail : ℕ
  pub closed : HasClosed law o desk tail core
  pub many : length works ≡ length parts
  pub each : (k : ℕ) (lines : List ScriptLine) (w : SessionWork) → slice_get parts k ≡ Some lines → slice_get works k ≡ Some w
      → IsWork failed (world_of core) (k + 1) (opened_view (start_of o)) lines w
  pub flushed : failed ≡ false → ((seat : ℕ) → IsSession (world_of core) seat → phase_at (world_of core) seat ≡ Sealed → ⊥) → core.shared.flushed ≡ core.shared.tail
  pub others : (seat : ℕ) → length works < seat → seat ≤ SESSIONS → IsUntouched seat (world_of core)

-- The world as it was opened is serializable. The disk is that of a desk, from what it told and counted at first, and whose book is that of the end.
pub record RanBeside (law : Law) (o : Opening) (began : Option (List Step)) (first : ℕ) (parts : List (List ScriptLine)) (told : Option (List Step)) (faults : ℕ) (failed : Bool) (works : List SessionWork) : Type 0 where
  pub begins : IsSerializable law (opened_view (start_of o))
  pub book : Book
  pub desk : IsDesk law (start_of o) began first (record { book = book; told = told; faults = faults; failed = failed })
  pub have_run : HaveRun law o failed book parts works
