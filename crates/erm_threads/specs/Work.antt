-- What the workers of sessions do: each runs its session's lines, and closes it behind them.
use Rattle.std.specs.Prelude.{◌≡◌, ℕ, ◌<◌, ◌≤◌, ◌⊎◌, false, List, [], length, Option, None, Some, vec_capacity}
use Rattle.std.specs.List.{slice_get}
use Rattle.erm_model.specs.declared.outcome.Phase.{Phase}
use Rattle.erm_model.specs.declared.outcome.Phase.TheVariants.{Active, Idle, Sealed}
use Rattle.erm_model.specs.Member.{◌∈◌}
use Rattle.erm_report.specs.declared.answer.Answer.{Answer}
use Rattle.erm_script.specs.declared.script.ScriptLine.{ScriptLine}
use Rattle.erm_world.specs.World.{View, phase_at}
use Rattle.erm_beside.specs.Laws.{GoesOnward}
use Rattle.erm_worker.specs.Work.{IsReady, MayBeAsked, RanLines, RanShort, WasClosed, WasGivenUp}
use Rattle.erm_threads.specs.declared.job.Done.{Done}
use Rattle.erm_threads.specs.declared.job.Job.{Job}

-- these are lines of the session, which has committed nothing
pub record MayWork (seat : ℕ) (v : View) (lines : List ScriptLine) : Type 0 where
  pub own : (l : ScriptLine) → l ∈ lines → l.session ≡ seat
  pub may : (l : ScriptLine) → l ∈ lines → MayBeAsked l.command
  pub ready : IsReady v seat None

-- behind its last line an idle session stood, and another was closed, or is sealed and waits
abbrev pub WasEnded : Phase → ℕ → Option Answer → View → View → Type 0
WasEnded Idle seat closed v t = (closed ≡ None) × (t ≡ v)
WasEnded phase seat closed v t = WasClosed seat closed v t

-- The first lines of a session were answered, in order. Where all were, it was ended behind them; else it was left, and isn't closed.
pub record DidWork (f : View) (seat : ℕ) (lines : List ScriptLine) (answers : List Answer) (closed : Option Answer) (v t : View) : Type 0 where
  pub last : View
  pub ran : RanLines f seat lines answers v last
  pub whole : length answers ≡ length lines → WasEnded (phase_at last seat) seat closed last t
  pub cut : length answers < length lines → (closed ≡ None) × (t ≡ last)

-- So it was of a session; or memory ran out for it behind its first lines, and it was given up, and isn't closed.
abbrev pub DidSome : View → ℕ → List ScriptLine → List Answer → Option Answer → View → View → Type 0
DidSome f seat lines answers closed v t = DidWork f seat lines answers closed v t ⊎ ((closed ≡ None) × RanShort WasGivenUp f seat lines answers v t)

-- Of sessions that stand so, are of such seats and know so much: a job that a worker may be given.
pub record IsJob {S T : Type 0} (stands : S → Type 0) (seat : S → ℕ) (own : S → View) (job : Job S T) : Type 0 where
  pub stands_so : stands job.session
  pub may : MayWork (seat job.session) (own job.session) job.lines.items
  pub none : job.answers.items ≡ []
  pub room : length job.lines.items ≤ vec_capacity job.answers

-- the session of a job after its worker
abbrev pub done_of : {S T : Type 0} → Job S T → Done S
done_of job = record { session = job.session; answers = job.answers; closed = job.closed; lacked = job.lacked }

-- A session after its worker stands, is of its seat and isn't active: it did its work, in each world in which all may end as far as it knows, or some of
-- it, where memory ran out for it.
pub record Worked {S T : Type 0} (stands : S → Type 0) (seat : S → ℕ) (own : S → View) (ends : S → View → Type 0) (job : Job S T) (done : Done S) : Type 0 where
  pub stands_so : stands done.session
  pub onward : GoesOnward (seat job.session) (seat done.session) (ends job.session) (ends done.session)
  pub rests : phase_at (own done.session) (seat job.session) ≡ Active → ⊥
  pub most : length done.answers.items ≤ length job.lines.items
  pub did : done.lacked ≡ false → (f : View) → ends done.session f
      → DidWork f (seat job.session) job.lines.items done.answers.items done.closed (own job.session) (own done.session)
  pub some : (f : View) → ends done.session f → DidSome f (seat job.session) job.lines.items done.answers.items done.closed (own job.session) (own done.session)

-- so is each session after the worker of its job, in order
abbrev pub AllWorked : {S T : Type 0} → (S → Type 0) → (S → ℕ) → (S → View) → (S → View → Type 0) → List (Job S T) → List (Job S T) → Type 0
AllWorked {S} {T} stands seat own ends jobs back = (k : ℕ) (job b : Job S T) → slice_get jobs k ≡ Some job → slice_get back k ≡ Some b → Worked stands seat own ends job (done_of b)

-- Where memory sufficed, a session that was left behind fewer answers than lines, or is sealed and wasn't closed, was so because of what its worker was
-- told by what it waited by.
pub record LeftWhenTold {S T : Type 0} (told : T → Type 0) (seat : S → ℕ) (own : S → View) (job back : Job S T) : Type 0 where
  pub left : back.lacked ≡ false → length back.answers.items < length job.lines.items → told back.turns
  pub waits : back.lacked ≡ false → back.closed ≡ None → phase_at (own back.session) (seat job.session) ≡ Sealed → told back.turns

-- so is each session after the worker of its job, in order
abbrev pub AllLeftWhenTold : {S T : Type 0} → (T → Type 0) → (S → ℕ) → (S → View) → List (Job S T) → List (Job S T) → Type 0
AllLeftWhenTold {S} {T} told seat own jobs back = (k : ℕ) (job b : Job S T) → slice_get jobs k ≡ Some job → slice_get back k ≡ Some b → LeftWhenTold told seat own job b
