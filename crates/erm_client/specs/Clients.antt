-- Clients: what is so of one between its calls, and how it goes on from one call to the next.
use Rattle.std.specs.Prelude.{◌≡◌, ℕ, ◌≤◌, ◌⊎◌, List, Option, None, IfSome}
use Rattle.erm_beside.specs.Laws.{GoesOnward}
use Rattle.erm_client.specs.Dealings.{HasNothing, dealings_of}
use Rattle.erm_client.specs.declared.client.Client.{Client}
use Rattle.erm_client.specs.declared.transcript.Standing.{Standing}
use Rattle.erm_client.specs.declared.transcript.Standing.TheVariants as standing
use Rattle.erm_client.specs.declared.transcript.Transcript.{Transcript}
use Rattle.erm_client.specs.Transcripts.{HasRoom, IsTranscript}
use Rattle.erm_good_report.specs.Transactions.{Progress}
use Rattle.erm_lines.specs.Executions.{line_moves}
use Rattle.erm_model.specs.declared.outcome.Phase.{Phase}
use Rattle.erm_model.specs.declared.outcome.Phase.TheVariants.{Active, Idle, Pending, Safe}
use Rattle.erm_lines_at_once.specs.Executions.{IsOwnRun}
use Rattle.erm_report.specs.declared.answer.Answer.{Answer}
use Rattle.erm_script.specs.declared.script.ScriptLine.{ScriptLine}
use Rattle.erm_threads.specs.Work.{DidWork}
use Rattle.erm_worker.specs.Work.{GaveUp, IsReady, RanLines}
use Rattle.erm_world.specs.Face.{Grows}
use Rattle.erm_world.specs.World.{View, phase_at}

-- The lines were answered in order, with others going on between; behind them memory ran out, in a line of which nothing is told: there the session's
-- transaction in progress may have gone on, and no more was done. The log had come no further before it than in the world in which all end.
pub record RanStarved (f : View) (seat : ℕ) (lines : List ScriptLine) (answers : List Answer) (v t : View) : Type 0 where
  pub last : View
  pub run : IsOwnRun f seat v (line_moves lines answers) last
  pub within : (last.tail ≤ f.tail) × (last.flushed ≤ f.flushed)
  pub went : Grows (last.session seat) (t.session seat)

-- The lines were answered in order, with others going on between, and the session was left where its client was told to stop, or where memory ran out.
abbrev pub RanUpTo : Standing → View → ℕ → List ScriptLine → List Answer → View → View → Type 0
RanUpTo standing.Open f seat lines answers v t = RanLines f seat lines answers v t
RanUpTo standing.Stopped f seat lines answers v t = RanLines f seat lines answers v t
RanUpTo standing.Starved f seat lines answers v t = RanStarved f seat lines answers v t

-- From the first view on the session did what the transcript tells, and stands in the second.
abbrev pub HasRun : View → View → Transcript → View → Type 0
HasRun f v c t = RanUpTo c.standing f c.seat c.lines.items c.answers.items v t

-- Whatever it began with: where the session had done what the one transcript tells, it has done what the other one tells.
abbrev pub RunsOn : (View → Type 0) → Transcript → View → (View → Type 0) → Transcript → View → Type 0
RunsOn before c u after d t = (v : View) → ((f : View) → before f → HasRun f v c u) → (f : View) → after f → HasRun f v d t

-- A session is in this phase, and its transactions and snapshots are told so: it is active where a transaction is told to be in progress, has a safe snapshot
-- where one is, and is idle where nothing is, unless it has a snapshot of which no line tells, and which isn't known to be safe.
pub record IsInPhase (phase : Phase) (p : Progress) : Type 0 where
  pub active : IfSome p.current (λ _. phase ≡ Active)
  pub safe : IfSome p.snapshot (λ _. phase ≡ Safe)
  pub idle : p.current ≡ None → p.snapshot ≡ None → (phase ≡ Idle) ⊎ (phase ≡ Pending)

-- Of sessions that stand so on what they share, are of such seats and know so much: a client between its calls. Where it isn't over, its session is ready
-- for the next line, and in the phase that its transcript tells; and while it isn't idle there is room for the line that gives up what is in progress. Where
-- it was told to stop, no transaction is in progress.
pub record IsClient {S T X : Type 0} (stands : X → S → Type 0) (seat : S → ℕ) (own : S → View) (c : Client S T X) : Type 0 where
  pub stands_so : stands c.shared.now c.session
  pub seat_is : c.transcript.seat ≡ seat c.session
  pub transcript_ok : IsTranscript c.transcript
  pub ready : c.transcript.standing ≡ standing.Open → IsReady (own c.session) (seat c.session) c.receipt
  pub in_phase : c.transcript.standing ≡ standing.Open → IsInPhase (phase_at (own c.session) (seat c.session)) (dealings_of c.transcript)
  pub room : c.transcript.standing ≡ standing.Open → (phase_at (own c.session) (seat c.session) ≡ Idle → ⊥) → HasRoom 1 c.transcript
  pub left : c.transcript.standing ≡ standing.Stopped → phase_at (own c.session) (seat c.session) ≡ Active → ⊥

-- A client rests: where it may be asked still, its session is idle, and its transcript tells nothing to be in progress; and where it was told to stop, no
-- transaction is.
pub record Rests {S T X : Type 0} (seat : S → ℕ) (own : S → View) (c : Client S T X) : Type 0 where
  pub idle : c.transcript.standing ≡ standing.Open → phase_at (own c.session) (seat c.session) ≡ Idle
  pub none : c.transcript.standing ≡ standing.Open → HasNothing c.transcript
  pub left : c.transcript.standing ≡ standing.Stopped → phase_at (own c.session) (seat c.session) ≡ Active → ⊥

-- A client goes on, whatever it is answered. Where it is told to stop, it was so by what it waits by; and from then on it stays as it is.
pub record GoesOn {S T X : Type 0} (stands : X → S → Type 0) (seat : S → ℕ) (own : S → View) (ends : S → View → Type 0) (told : T → Type 0) (c d : Client S T X) : Type 0 where
  pub client : IsClient stands seat own d
  pub same : d.shared ≡ c.shared
  pub onward : GoesOnward (seat c.session) (seat d.session) (ends c.session) (ends d.session)
  pub ran : RunsOn (ends c.session) c.transcript (own c.session) (ends d.session) d.transcript (own d.session)
  pub stops : c.transcript.standing ≡ standing.Open → d.transcript.standing ≡ standing.Stopped → told d.turns
  pub over : (c.transcript.standing ≡ standing.Open → ⊥) → d ≡ c

-- Whatever it began with: where the session had done what the transcript tells, unless memory ran out, it did this work, and was closed so behind it.
abbrev pub FinishesWork : (View → Type 0) → View → (View → Type 0) → View → Transcript → Option Answer → Type 0
FinishesWork before u after t c closed = (c.standing ≡ standing.Starved → ⊥) → (v : View) → ((f : View) → before f → HasRun f v c u) → (f : View) → after f
    → DidWork f c.seat c.lines.items c.answers.items closed v t

-- Where memory ran out it did these lines, its transaction in progress may have gone on, and then this was given up; the session wasn't closed.
pub record WasStarved (f : View) (seat : ℕ) (lines : List ScriptLine) (answers : List Answer) (closed : Option Answer) (v t : View) : Type 0 where
  pub between : View
  pub ran : RanStarved f seat lines answers v between
  pub gave : GaveUp (phase_at between seat) seat between t
  pub unclosed : closed ≡ None

abbrev pub StarvesWork : (View → Type 0) → View → (View → Type 0) → View → Transcript → Option Answer → Type 0
StarvesWork before u after t c closed = c.standing ≡ standing.Starved → (v : View) → ((f : View) → before f → HasRun f v c u) → (f : View) → after f
    → WasStarved f c.seat c.lines.items c.answers.items closed v t
