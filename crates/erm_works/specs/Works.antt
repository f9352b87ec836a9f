-- What the sessions of a script did at once, each by what is known of it in the world in which all ended.
use Rattle.std.specs.Prelude.{◌≡◌, ℕ, ◌+◌, ◌<◌, ◌≤◌, List, length, slice_get, Option, Some}
use Rattle.erm_model.specs.declared.limits.TheConstants.{LAST_NUMBER}
use Rattle.erm_model.specs.declared.outcome.Phase.TheVariants.{Active, Sealed}
use Rattle.erm_model.specs.Member.{◌∈◌}
use Rattle.erm_report.specs.declared.answer.Answer.{Answer}
use Rattle.erm_script.specs.declared.script.ScriptLine.{ScriptLine}
use Rattle.erm_script.specs.Script.{IsInRange}
use Rattle.erm_world.specs.World.{IsSession, View, phase_at}
use Rattle.erm_lines.specs.Executions.{IsOpened}
use Rattle.erm_lines_at_once.specs.Ends.{IsEnd}
use Rattle.erm_worker.specs.Laws.{IsAtEnd}
use Rattle.erm_threads.specs.Parts.{IsSeatOf, own_lines}
use Rattle.erm_threads.specs.Work.{DidSome, DidWork}
use Rattle.erm_joined.specs.Merged.{AreAll, AreFirst}

-- A script split in a world that was just opened: by seat from 1 on, each part has the lines of a session.
pub record IsSplit (v : View) (script : List ScriptLine) (parts : List (List ScriptLine)) : Type 0 where
  pub opened : IsOpened v
  pub ranges : (l : ScriptLine) → l ∈ script → IsInRange l.command
  pub few : length script ≤ LAST_NUMBER
  pub seats : (l : ScriptLine) → l ∈ script → IsSeatOf (length parts) l
  pub sessions : length parts ≤ v.opening.sessions
  pub own : (k : ℕ) (lines : List ScriptLine) → slice_get parts k ≡ Some lines → lines ≡ own_lines (k + 1) script

-- what a session did of its lines, by its answers and its closing, from one view to another
abbrev pub Did : Type 1
Did = View → ℕ → List ScriptLine → List Answer → Option Answer → View → View → Type 0

-- A session with these lines did so, from the first world on: it stands in the second as it was left, which wasn't with a transaction in progress.
pub record DidSo (So : Did) (f : View) (seat : ℕ) (v : View) (lines : List ScriptLine) (answers : List Answer) (closed : Option Answer) : Type 0 where
  pub last : View
  pub at_end : IsAtEnd f seat last
  pub rests : phase_at last seat ≡ Active → ⊥
  pub most : length answers ≤ length lines
  pub did : So f seat lines answers closed v last

-- it did its work
abbrev pub DidSession : View → ℕ → View → List ScriptLine → List Answer → Option Answer → Type 0
DidSession = DidSo DidWork

-- one world was opened as another, and its log has come as far at least
pub record IsBeyond (v f : View) : Type 0 where
  pub opening : f.opening ≡ v.opening
  pub tail : v.tail ≤ f.tail
  pub flushed : v.flushed ≤ f.flushed

-- From the first world on all came to an end in the second: there each session with a part did so, with its answers and its closing, and one without
-- stands as before.
pub record HaveDone (So : Did) (v f : View) (parts : List (List ScriptLine)) (answers : List (List Answer)) (closed : List (Option Answer)) : Type 0 where
  pub as_many : (length answers ≡ length parts) × (length closed ≡ length parts)
  pub each : (k : ℕ) (lines : List ScriptLine) (own : List Answer) (end : Option Answer) → slice_get parts k ≡ Some lines → slice_get answers k ≡ Some own
      → slice_get closed k ≡ Some end → DidSo So f (k + 1) v lines own end
  pub ends_so : IsEnd f
  pub beyond : IsBeyond v f
  pub others : (seat : ℕ) → IsSession v seat → length parts < seat → (f.session seat ≡ v.session seat) × (f.given_up seat ≡ v.given_up seat)

-- each did its work
abbrev pub AreWorks : View → View → List (List ScriptLine) → List (List Answer) → List (Option Answer) → Type 0
AreWorks = HaveDone DidWork

-- each did its work, or some of it, where memory ran out for it
abbrev pub AreSomeWorks : View → View → List (List ScriptLine) → List (List Answer) → List (Option Answer) → Type 0
AreSomeWorks = HaveDone DidSome

-- each line of a session was answered, and it doesn't wait where all ended
abbrev pub IsComplete : View → ℕ → List ScriptLine → List Answer → Type 0
IsComplete f seat lines answers = (length answers ≡ length lines) × (phase_at f seat ≡ Sealed → ⊥)

-- so is each session with a part, by seat from 1 on
abbrev pub AreComplete : View → List (List ScriptLine) → List (List Answer) → Type 0
AreComplete f parts answers = (k : ℕ) (lines : List ScriptLine) (own : List Answer) → slice_get parts k ≡ Some lines → slice_get answers k ≡ Some own
    → IsComplete f (k + 1) lines own

-- no session has more answers than lines, so that they may be put together
abbrev pub WorksAreFirst : Type 0
WorksAreFirst = (v f : View) (script : List ScriptLine) (parts : List (List ScriptLine)) (answers : List (List Answer)) (closed : List (Option Answer))
    → IsSplit v script parts → AreWorks v f parts answers closed → AreFirst script answers

-- and where each is complete they are the answers to all lines
abbrev pub CompleteWorksAreAll : Type 0
CompleteWorksAreAll = (v f : View) (script : List ScriptLine) (parts : List (List ScriptLine)) (answers : List (List Answer)) (closed : List (Option Answer))
    → IsSplit v script parts → AreWorks v f parts answers closed → AreComplete f parts answers → AreAll script answers
