-- What the threads of programs do: each runs a program with its client, and closes this behind it.
use Rattle.std.specs.Prelude.{◌≡◌, ℕ, List, None, Some}
use Rattle.std.specs.List.{slice_get}
use Rattle.erm_beside.specs.Laws.{GoesOnward}
use Rattle.erm_client.specs.Clients.{IsClient, WasStarved}
use Rattle.erm_client.specs.declared.client.Client.{Client}
use Rattle.erm_client.specs.declared.client.Finished.{Finished}
use Rattle.erm_client.specs.declared.transcript.Standing.TheVariants as standing
use Rattle.erm_client.specs.declared.transcript.Transcript.{Transcript}
use Rattle.erm_client.specs.Transcripts.{IsNew, IsTranscript}
use Rattle.erm_client_threads.specs.declared.job.Job.{Job}
use Rattle.erm_model.specs.declared.outcome.Phase.TheVariants.{Active, Sealed}
use Rattle.erm_threads.specs.Work.{DidWork}
use Rattle.erm_world.specs.World.{View, phase_at}

-- Of sessions that stand so on what they share, are of such seats and know so much: a program with a client that was asked nothing.
pub record IsJob {S T X P : Type 0} (stands : X → S → Type 0) (seat : S → ℕ) (own : S → View) (job : Job S T P X) : Type 0 where
  pub client : Client S T X
  pub is : job.client ≡ Some client
  pub is_client : IsClient stands seat own client
  pub new : IsNew (seat client.session) client.transcript
  pub none : job.finished ≡ None

-- A client was left so: its session stands, is of its seat and isn't active. It did the work that its transcript tells, in each world in which all may end as
-- far as it knows, unless memory ran out for it in a line: then it did what its transcript tells, and what it had in progress was given up. Where it was told
-- to stop, or is sealed and wasn't closed, it was so by what it waited by.
pub record IsLeft {S T X : Type 0} (stands : X → S → Type 0) (seat : S → ℕ) (own : S → View) (ends : S → View → Type 0) (told : T → Type 0) (client : Client S T X) (left : Finished S T) : Type 0 where
  pub stands_so : stands client.shared.now left.session
  pub onward : GoesOnward (seat client.session) (seat left.session) (ends client.session) (ends left.session)
  pub rests : phase_at (own left.session) (seat client.session) ≡ Active → ⊥
  pub seat_is : left.transcript.seat ≡ seat client.session
  pub transcript_ok : IsTranscript left.transcript
  pub did : (left.transcript.standing ≡ standing.Starved → ⊥) → (f : View) → ends left.session f
      → DidWork f left.transcript.seat left.transcript.lines.items left.transcript.answers.items left.closed (own client.session) (own left.session)
  pub starved : left.transcript.standing ≡ standing.Starved → (f : View) → ends left.session f
      → WasStarved f left.transcript.seat left.transcript.lines.items left.transcript.answers.items left.closed (own client.session) (own left.session)
  pub stops : left.transcript.standing ≡ standing.Stopped → told left.turns
  pub waits : left.transcript.standing ≡ standing.Open → left.closed ≡ None → phase_at (own left.session) (seat client.session) ≡ Sealed → told left.turns

-- The program ran with its client, which was left so behind it, and keeps its promise.
pub record Worked {S T X P : Type 0} (stands : X → S → Type 0) (seat : S → ℕ) (own : S → View) (ends : S → View → Type 0) (told : T → Type 0) (promises : P → P → Transcript → Type 0)
    (job back : Job S T P X) : Type 0 where
  pub gone : back.client ≡ None
  pub left : Finished S T
  pub is : back.finished ≡ Some left
  pub is_left : (client : Client S T X) → job.client ≡ Some client → IsLeft stands seat own ends told client left
  pub promised : promises job.program back.program left.transcript

-- so did each, in order
abbrev pub AllWorked : {S T X P : Type 0} → (X → S → Type 0) → (S → ℕ) → (S → View) → (S → View → Type 0) → (T → Type 0) → (P → P → Transcript → Type 0)
    → List (Job S T P X) → List (Job S T P X) → Type 0
AllWorked {S} {T} {X} {P} stands seat own ends told promises jobs back = (k : ℕ) (job b : Job S T P X) → slice_get jobs k ≡ Some job → slice_get back k ≡ Some b
    → Worked stands seat own ends told promises job b
