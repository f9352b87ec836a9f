-- Programs that ran with the sessions of a table, which isn't closed yet.
use Rattle.std.specs.Prelude.{◌≡◌, ℕ, ◌+◌, List, None}
use Rattle.erm_client.specs.Clients.{WasStarved}
use Rattle.erm_client.specs.declared.transcript.Standing.TheVariants as standing
use Rattle.erm_client.specs.declared.transcript.Transcript.{Transcript}
use Rattle.erm_client.specs.Transcripts.{IsTranscript}
use Rattle.erm_client_beside.specs.declared.ran.ProgramRun.{ProgramRun}
use Rattle.erm_client_beside.specs.Lists.{AreTripled}
use Rattle.erm_engine.specs.Opened.{opened_view}
use Rattle.erm_model.specs.declared.outcome.Phase.TheVariants.{Active, Sealed}
use Rattle.erm_model.specs.RowTransaction.{Law}
use Rattle.erm_rule.specs.declared.rule.Table.{Table}
use Rattle.erm_rule.specs.declared.view.Opening.{Opening}
use Rattle.erm_rule.specs.Openings.{start_of}
use Rattle.erm_shared_session.specs.declared.session.TableSession.{TableSession}
use Rattle.erm_shared_session.specs.Stands.{Ends, Stands, own_of, seat_of}
use Rattle.erm_threads.specs.Work.{DidWork}
use Rattle.erm_world.specs.World.{View, phase_at}

-- A program ran with the client of the session of this seat, which stands, and has no transaction in progress. The program keeps its promise. Unless memory
-- ran out in a line the session did the work that the transcript tells, from the world as it was opened; where it did, the session did its lines, and what it
-- had in progress was given up. It was told to stop, or is sealed and wasn't closed behind its last line, only where this is so.
pub record IsLeft {L P : Type 0} (law : Law) (table : Table L) (o : Opening) (promises : P → P → Transcript → Type 0) (so : Type 0) (seat : ℕ) (program : P) (s : TableSession L)
    (r : ProgramRun P) : Type 0 where
  pub stands : Stands law table s
  pub seat_is : seat_of s ≡ seat
  pub rests : phase_at (own_of s) seat ≡ Active → ⊥
  pub place : r.transcript.seat ≡ seat
  pub transcript_ok : IsTranscript r.transcript
  pub promised : promises program r.program r.transcript
  pub did : (r.transcript.standing ≡ standing.Starved → ⊥) → (f : View) → Ends law s f
      → DidWork f seat r.transcript.lines.items r.transcript.answers.items r.closed (opened_view (start_of o)) (own_of s)
  pub starved : r.transcript.standing ≡ standing.Starved → (f : View) → Ends law s f
      → WasStarved f seat r.transcript.lines.items r.transcript.answers.items r.closed (opened_view (start_of o)) (own_of s)
  pub stops : r.transcript.standing ≡ standing.Stopped → so
  pub waits : r.transcript.standing ≡ standing.Open → r.closed ≡ None → phase_at (own_of s) seat ≡ Sealed → so

-- so did all, by seat from 1 on
abbrev pub AreLeft : {L P : Type 0} → Law → Table L → Opening → (P → P → Transcript → Type 0) → Type 0 → List P → List (TableSession L) → List (ProgramRun P) → Type 0
AreLeft law table o promises so programs sessions runs = AreTripled (λ k program s r. IsLeft law table o promises so (k + 1) program s r) programs sessions runs
