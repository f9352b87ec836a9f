-- The jobs of programs, and the room for them.
use Rattle.std.specs.Prelude.{◌≡◌, ℕ, ◌+◌, ◌≤◌, List, [], None, Some, vec_capacity}
use Rattle.erm_client.specs.Clients.{IsClient}
use Rattle.erm_client.specs.declared.client.Client.{Client}
use Rattle.erm_client.specs.Transcripts.{IsNew as IsUnasked}
use Rattle.erm_client_beside.specs.declared.room.Room.{Room}
use Rattle.erm_client_beside.specs.Lists.{ArePaired}
use Rattle.erm_client_threads.specs.declared.job.Job.{Job}
use Rattle.erm_engine.specs.Opened.{IsNew}
use Rattle.erm_model.specs.RowTransaction.{Law}
use Rattle.erm_rule.specs.declared.rule.Table.{Table}
use Rattle.erm_rule.specs.declared.view.Opening.{Opening}
use Rattle.erm_shared_session.specs.declared.session.TableSession.{TableSession}
use Rattle.erm_shared_session.specs.Stands.{Stands, own_of, seat_of}

-- there is room for so many programs, of which none has a job yet
pub record IsRoomFor {S T P X : Type 0} (many : ℕ) (r : Room S T P X) : Type 0 where
  pub no_job : r.jobs.items ≡ []
  pub no_session : r.sessions.items ≡ []
  pub no_run : r.runs.items ≡ []
  pub jobs : many ≤ vec_capacity r.jobs
  pub sessions : many ≤ vec_capacity r.sessions
  pub runs : many ≤ vec_capacity r.runs

-- the job of a program, with the client of a session of this seat that was just handed out, and asked nothing
pub record IsJobOf {L T P : Type 0} (law : Law) (table : Table L) (o : Opening) (seat : ℕ) (program : P) (j : Job (TableSession L) T P (Table L)) : Type 0 where
  pub client : Client (TableSession L) T (Table L)
  pub is : j.client ≡ Some client
  pub none : j.finished ≡ None
  pub program_is : j.program ≡ program
  pub shared_is : client.shared.now ≡ table
  pub session : IsNew law table o seat client.session
  pub is_client : IsClient (λ t s. Stands law t s) seat_of own_of client
  pub unasked : IsUnasked (seat_of client.session) client.transcript

-- so has each program, by seat from 1 on
abbrev pub AreJobs : {L T P : Type 0} → Law → Table L → Opening → List P → List (Job (TableSession L) T P (Table L)) → Type 0
AreJobs law table o programs jobs = ArePaired (λ k program j. IsJobOf law table o (k + 1) program j) programs jobs
