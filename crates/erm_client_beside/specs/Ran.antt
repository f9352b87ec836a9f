-- What is so once programs have run on threads, and the table is closed.
use Rattle.std.specs.Prelude.{◌≡◌, ℕ, ◌+◌, ◌<◌, ◌≤◌, Bool, false, List, length, Option}
use Rattle.erm_client.specs.Clients.{WasStarved}
use Rattle.erm_client.specs.declared.transcript.Standing.TheVariants as standing
use Rattle.erm_client.specs.declared.transcript.Transcript.{Transcript}
use Rattle.erm_client.specs.Transcripts.{IsTranscript}
use Rattle.erm_client_beside.specs.declared.ran.ProgramRun.{ProgramRun}
use Rattle.erm_client_beside.specs.Lists.{ArePaired}
use Rattle.erm_desk.specs.Desk.{IsDesk}
use Rattle.erm_engine.specs.Ended.{HasClosed, IsUntouched, world_of}
use Rattle.erm_engine.specs.Opened.{opened_view}
use Rattle.erm_machine.specs.Core.{Core}
use Rattle.erm_model.specs.declared.limits.TheConstants.{SESSIONS}
use Rattle.erm_model.specs.declared.outcome.Phase.TheVariants.{Active, Sealed}
use Rattle.erm_model.specs.RowTransaction.{Law}
use Rattle.erm_outside.specs.Disk.{Step}
use Rattle.erm_rule.specs.declared.view.Book.{Book}
use Rattle.erm_rule.specs.declared.view.Opening.{Opening}
use Rattle.erm_rule.specs.Openings.{start_of}
use Rattle.erm_threads.specs.Work.{DidWork}
use Rattle.erm_worker.specs.Laws.{IsAtEnd}
use Rattle.erm_world.specs.Laws.{IsSerializable}
use Rattle.erm_world.specs.World.{IsSession, View, phase_at}

-- A program ran with the client of the session of this seat, which stands in this world as it was left: that wasn't with a transaction in progress. The
-- program keeps its promise. Unless memory ran out in a line the session did the work that the transcript tells, from the world as it was opened: to the end,
-- unless the disk failed, so that it doesn't wait. Where memory ran out the session did its lines, and what it had in progress was given up.
pub record IsRun {P : Type 0} (promises : P → P → Transcript → Type 0) (failed : Bool) (f : View) (seat : ℕ) (v : View) (program : P) (r : ProgramRun P) : Type 0 where
  pub place : r.transcript.seat ≡ seat
  pub transcript_ok : IsTranscript r.transcript
  pub promised : promises program r.program r.transcript
  pub last : View
  pub at_end : IsAtEnd f seat last
  pub rests : phase_at last seat ≡ Active → ⊥
  pub did : (r.transcript.standing ≡ standing.Starved → ⊥) → DidWork f seat r.transcript.lines.items r.transcript.answers.items r.closed v last
  pub starved : r.transcript.standing ≡ standing.Starved → WasStarved f seat r.transcript.lines.items r.transcript.answers.items r.closed v last
  pub stopped : failed ≡ false → r.transcript.standing ≡ standing.Stopped → ⊥
  pub whole : failed ≡ false → (r.transcript.standing ≡ standing.Starved → ⊥) → (r.transcript.standing ≡ standing.Open) × (phase_at last seat ≡ Sealed → ⊥)

-- THE END. There is one state in which the table of this opening was closed, to which the desk's book leads on, and each program ran so in the world that it
-- shows. Nothing was done in the sessions behind theirs. Where no session waits, and the disk hasn't failed, all of the log is flushed.
pub record HaveRun {P : Type 0} (promises : P → P → Transcript → Type 0) (law : Law) (o : Opening) (failed : Bool) (desk : Book) (programs : List P) (runs : List (ProgramRun P)) : Type 0 where
  pub core : Core
  pub tail : ℕ
  pub closed : HasClosed law o desk tail core
  pub each : ArePaired (λ k program r. IsRun promises failed (world_of core) (k + 1) (opened_view (start_of o)) program r) programs runs
  pub flushed : failed ≡ false → ((seat : ℕ) → IsSession (world_of core) seat → phase_at (world_of core) seat ≡ Sealed → ⊥) → core.shared.flushed ≡ core.shared.tail
  pub others : (seat : ℕ) → length runs < seat → seat ≤ SESSIONS → IsUntouched seat (world_of core)

-- The world as it was opened is serializable. The disk is that of a desk, from what it told and counted at first, and whose book is that of the end.
pub record RanBeside {P : Type 0} (promises : P → P → Transcript → Type 0) (law : Law) (o : Opening) (began : Option (List Step)) (first : ℕ) (programs : List P)
    (told : Option (List Step)) (faults : ℕ) (failed : Bool) (runs : List (ProgramRun P)) : Type 0 where
  pub begins : IsSerializable law (opened_view (start_of o))
  pub book : Book
  pub desk : IsDesk law (start_of o) began first (record { book = book; told = told; faults = faults; failed = failed })
  pub have_run : HaveRun promises law o failed book programs runs
