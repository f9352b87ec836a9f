-- The end of a run: which sessions were closed, and how.
use Rattle.std.specs.Prelude.{◌≡◌, ℕ, zero, suc, ◌+◌, ◌==◌, ◌<◌, ◌≤◌, ◌⊎◌, if◌then◌else◌, List, [], ◌∷◌, length, slice_index_or, Option, Some, None}
use Rattle.std.specs.List.{All}
use Rattle.erm_model.specs.declared.outcome.Phase.TheVariants.{Idle, Sealed}
use Rattle.erm_model.specs.Member.{◌∈◌}
use Rattle.erm_report.specs.declared.answer.Answer.{Answer}
use Rattle.erm_world.specs.World.{IsSession, Session, Stand, View, Work, phase_at}
use Rattle.erm_world.specs.World as world
use Rattle.erm_good_report.specs.Phases.{Closed}
use Rattle.erm_lines.specs.Executions.{IsExecution, IsLast, Move, close, closed_in, flush, line, log}

-- the answer with which moves close a session, if they do
abbrev pub end_of : List Move → ℕ → Option Answer
end_of [] seat = None
end_of (line l a ∷ moves) seat = end_of moves seat
end_of (log l a ∷ moves) seat = end_of moves seat
end_of (close other a ∷ moves) seat = if other == seat then Some a else end_of moves seat
end_of (flush ∷ moves) seat = end_of moves seat

-- the sessions that were closed, of those with seats from this one on that ended so
abbrev pub closes_from : ℕ → List (Option Answer) → List Closed
closes_from seat [] = []
closes_from seat (None ∷ ends) = closes_from (seat + 1) ends
closes_from seat (Some a ∷ ends) = record { session = seat; answer = a } ∷ closes_from (seat + 1) ends

-- A world is closed by these moves, which are ends alone. How each session was closed is noted by its seat, from 1; one that was closed is
-- idle, and was closed once.
pub record IsClosing (v : View) (sessions : ℕ) (ends : List (Option Answer)) (t : View) : Type 0 where
  pub closing : List Move
  pub last : All IsLast closing
  pub closes : IsExecution v closing t
  pub many : length ends ≡ sessions
  pub noted : (place : ℕ) → place < sessions → slice_index_or ends place None ≡ end_of closing (place + 1)
  pub told : (c : Closed) → c ∈ closed_in closing → (end_of closing c.session ≡ Some c.answer) × (0 < c.session) × (c.session ≤ sessions)
  pub idle : (seat : ℕ) (a : Answer) → end_of closing seat ≡ Some a → (0 < seat) × (seat ≤ sessions) → phase_at t seat ≡ Idle

-- no transaction is sealed with a lesser stamp
abbrev pub IsLeast : View → ℕ → Type 0
IsLeast v stamp = (seat seen : ℕ) (w : Work) → IsSession v seat → (v.session seat).stand ≡ world.sealed w seen → stamp ≤ seen

-- all below the least stamp of those that are sealed is flushed
abbrev pub IsFlushedUp : View → Type 0
IsFlushedUp v = (seat stamp : ℕ) (w : Work) → IsSession v seat → (v.session seat).stand ≡ world.sealed w stamp → IsLeast v stamp → stamp ≤ v.flushed

-- where no session is left that isn't idle, all of the log is flushed
abbrev pub IsFlushedWhenIdle : View → Type 0
IsFlushedWhenIdle v = ((seat : ℕ) → IsSession v seat → phase_at v seat ≡ Idle) → v.flushed ≡ v.tail

-- Sessions stay as they are, or are closed. Each that wasn't sealed is idle then, and so is the one that was sealed with the least stamp.
pub record HasClosed (v t : View) : Type 0 where
  pub opening : t.opening ≡ v.opening
  pub session : (seat : ℕ) → IsSession v seat → (t.session seat ≡ v.session seat) ⊎ ((phase_at v seat ≡ Idle → ⊥) × (phase_at t seat ≡ Idle))
  pub unsealed : (seat : ℕ) → IsSession v seat → (phase_at v seat ≡ Sealed → ⊥) → phase_at t seat ≡ Idle
  pub least : (seat stamp : ℕ) (w : Work) → IsSession v seat → (v.session seat).stand ≡ world.sealed w stamp → IsLeast v stamp → phase_at t seat ≡ Idle

-- how many sessions up to a number aren't idle
abbrev pub open_in : Stand → ℕ
open_in world.idle = 0
open_in (world.active w) = 1
open_in (world.sealed w stamp) = 1
open_in (world.snapshot s) = 1

abbrev pub count_open : ℕ → (ℕ → Session) → ℕ
count_open zero session = 0
count_open (suc n) session = count_open n session + open_in (session (suc n)).stand
