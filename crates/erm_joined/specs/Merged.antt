-- What all workers answered, put together.
use Rattle.std.specs.Prelude.{◌≡◌, ℕ, ◌+◌, ◌-◌, ◌≤◌, List, [], ◌∷◌, length, slice_get, slice_index_or, Option, Some, None}
use Rattle.erm_report.specs.declared.answer.Answer.{Answer}
use Rattle.erm_report.specs.declared.answer.Answer.TheVariants as answer
use Rattle.erm_script.specs.declared.script.ScriptLine.{ScriptLine}
use Rattle.erm_good_report.specs.Phases.{Closed}
use Rattle.erm_threads.specs.Merged.{own_answers}
use Rattle.erm_threads.specs.Parts.{own_lines}

-- There is an answer to each of these lines, and those to each session's own are its part.
pub record AreMerged (lines : List ScriptLine) (parts : List (List Answer)) (answers : List Answer) : Type 0 where
  pub many : length answers ≡ length lines
  pub own : (k : ℕ) (part : List Answer) → slice_get parts k ≡ Some part → own_answers (k + 1) lines answers ≡ part

-- of the sessions with seats from this one on, those that were closed
abbrev pub closes_from : ℕ → List (Option Answer) → List Closed
closes_from seat [] = []
closes_from seat (None ∷ closed) = closes_from (seat + 1) closed
closes_from seat (Some a ∷ closed) = record { session = seat; answer = a } ∷ closes_from (seat + 1) closed

-- how a session was closed, as an execution tells it that was cut off: of one that was aborted it tells nothing
abbrev pub told_when_cut : Option Answer → Option Answer
told_when_cut (Some answer.Aborted) = None
told_when_cut closed = closed

-- how many answers a session has
abbrev pub counts_of : List (List Answer) → ℕ → ℕ
counts_of parts seat = length (slice_index_or parts (seat - 1) [])

-- no session has more answers than lines
abbrev pub AreFirst : List ScriptLine → List (List Answer) → Type 0
AreFirst script parts = (k : ℕ) (part : List Answer) → slice_get parts k ≡ Some part → length part ≤ length (own_lines (k + 1) script)

-- each session has an answer to each of its lines
abbrev pub AreAll : List ScriptLine → List (List Answer) → Type 0
AreAll script parts = (k : ℕ) (part : List Answer) → slice_get parts k ≡ Some part → length part ≡ length (own_lines (k + 1) script)
