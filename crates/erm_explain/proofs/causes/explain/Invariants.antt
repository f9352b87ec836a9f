use Rattle.std.proofs.Common.{◌≡◌, ℕ, ◌<◌, ◌≤◌, min, List, length, slice_get, Some}
use Rattle.erm_report.specs.declared.answer.Answer.{Answer}
use Rattle.erm_script.specs.declared.script.ScriptLine.{ScriptLine}
use Rattle.erm_explain.specs.declared.books.Books.{Books}
use Rattle.erm_explain.specs.declared.cause.Cause.{Cause}
use Rattle.erm_explain.specs.Books.{AreSeats}
use Rattle.erm_explain.specs.ByBooks.{HasTold}
use Rattle.erm_explain.specs.Named.{IsCause, IsItself}
use Rattle.erm_explain.proofs.causes.explain.Given as goal

-- the causes of the answers up to a place are there, and the books have what these told
pub record Explains (script : List ScriptLine) (answers : List Answer) (books : Books) (causes : List Cause) (place : ℕ) : Type 0 where
  pub seats : AreSeats books
  pub told : HasTold script answers place books
  pub count : length causes ≡ place
  pub within : place ≤ min (length script) (length answers)
  pub each : (i : ℕ) (l : ScriptLine) (a : Answer) → i < place → slice_get script i ≡ Some l → slice_get answers i ≡ Some a
      → (cause : Cause) × (slice_get causes i ≡ Some cause) × IsItself a cause × IsCause script answers i l a cause

abbrev pub invariant-loop-place : goal.invariant-loop-place
invariant-loop-place l = Explains l.script l.answers l.books l.causes.items l.place
