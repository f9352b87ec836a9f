-- What it means that a call of several steps comes to its end: a pair of numbers that each of its steps lowers.
use Rattle.std.specs.Prelude.{◌≡◌, ◌⊎◌, ◌≤◌, ℕ, ◌+◌, ◌-◌, ◌*◌, ◌<◌, if◌then◌else◌, length}
use Rattle.erm_machine.specs.declared.attempt.Attempt.{Attempt}
use Rattle.erm_machine.specs.declared.event.Kind.{Kind}
use Rattle.erm_machine.specs.declared.limits.TheConstants.{ANNOUNCERS, SESSIONS}
use Rattle.erm_machine.specs.declared.part.Part.{Part}
use Rattle.erm_machine.specs.declared.place.Place.{Place}
use Rattle.erm_machine.specs.declared.place.Place.TheVariants.{Begun, Announced, Active, Sealing, Drawn, Sealed, Decided, Leaving}
use Rattle.erm_machine.specs.declared.task.Task.{Task}
use Rattle.erm_machine.specs.declared.task.Task.TheVariants as task
use Rattle.erm_machine.specs.Core.{Core}
use Rattle.erm_machine.specs.Sound.{Sound}
use Rattle.erm_core_calls.specs.Going.{IsInCall, MovesOn, Written, next_kind, wants_back}

-- What lies ahead in a call: so many stages, and so much of the present one.
pub record Ahead : Type 0 where
  pub stages : ℕ
  pub left : ℕ

abbrev pub ahead_by : ℕ → ℕ → Ahead
ahead_by stages left = record { stages = stages; left = left }

-- Less lies ahead: fewer stages, or as many and less of the present one.
pub data IsLess (a b : Ahead) : Type 0 where
  fewer_stages : a.stages < b.stages → IsLess a b
  less_left : a.stages ≡ b.stages → a.left < b.left → IsLess a b

-- the steps of an end: reader stamps to raise, nine steps for each claim that isn't over, and reader bits to clear
abbrev pub end_left : Attempt → (raised ended step cleared : ℕ) → ℕ
end_left t raised ended step cleared = (length t.reads - raised) + (9 * (length t.writes - ended) - step) + (length t.reads - cleared)

-- and a back word to store
abbrev pub back_left : Attempt → (back : ℕ) → ℕ
back_left t back = if wants_back t back then 1 else 0

-- Active: a walk comes down its chain by the place of the version in hand, in two steps for each; a horizon has come to a
-- seat, and a row to a word. A snapshot has come to a session, whose begin word it loads and then its back word.
abbrev pub ahead_active : Attempt → Task → Ahead
ahead_active t (task.Owned oid owner) = ahead_by 3 0
ahead_active t (task.Cleared oid) = ahead_by 2 0
ahead_active t (task.Walks version head) = ahead_by 1 (2 * version.place + 1)
ahead_active t (task.Passed version) = ahead_by 1 (2 * version.place)
ahead_active t (task.Registered version) = ahead_by 2 0
ahead_active t (task.Overtaken version overwriter) = ahead_by 1 0
ahead_active t task.Numbers = ahead_by 1 0
ahead_active t (task.Surveys next) = ahead_by 1 (2 * (SESSIONS + 1 - next) + 1)
ahead_active t (task.Behind next) = ahead_by 1 (2 * (SESSIONS + 1 - next))
ahead_active t (task.SafeWalks version) = ahead_by 1 (2 * version.place + 1)
ahead_active t (task.SafePassed version) = ahead_by 1 (2 * version.place)
ahead_active t (task.Claimed version) = ahead_by 10 0
ahead_active t (task.Horizon version least next) = ahead_by 9 (ANNOUNCERS - next)
ahead_active t (task.CutWalks version horizon) = ahead_by 8 (2 * version.place + 1)
ahead_active t (task.CutPassed version horizon) = ahead_by 8 (2 * version.place)
ahead_active t (task.CutFound version horizon) = ahead_by 7 0
ahead_active t (task.Detaches version) = ahead_by 6 version.place
ahead_active t task.Draws = ahead_by 5 0
ahead_active t task.Pool = ahead_by 4 0
ahead_active t task.Fetched = ahead_by 3 0
ahead_active t task.Refused = ahead_by 2 0
ahead_active t (task.Copies word) = ahead_by 1 (16 - word)
ahead_active t (task.Writes claim word) = ahead_by 1 (16 - word)
ahead_active t (task.Ends raised ended step cleared) = ahead_by 1 (end_left t raised ended step cleared)
ahead_active t u = ahead_by 0 0

-- four stages for each version read or overwritten that isn't passed, before the block and the end
abbrev pub passing : ℕ → ℕ
passing versions = 4 + 4 * versions

-- Sealed: the versions read are passed, and then those overwritten, with fewer and fewer bits of readers; the words of the
-- block are stored.
abbrev pub ahead_sealed : Attempt → Task → Ahead
ahead_sealed t (task.Settles reads writes) = ahead_by (passing ((length t.reads - reads) + (length t.writes - writes))) 0
ahead_sealed t (task.ReadOwned read owner) = ahead_by (passing ((length t.reads - (read + 1)) + length t.writes) + 3) 0
ahead_sealed t (task.ReadClear read) = ahead_by (passing ((length t.reads - (read + 1)) + length t.writes) + 2) 0
ahead_sealed t (task.ReadOvertaken read overwriter) = ahead_by (passing ((length t.reads - (read + 1)) + length t.writes) + 1) 0
ahead_sealed t (task.ReadersLeft write bits) = ahead_by (passing (length t.writes - (write + 1)) + 3) bits
ahead_sealed t (task.WriteClear write) = ahead_by (passing (length t.writes - (write + 1)) + 2) 0
ahead_sealed t (task.WriteMade write) = ahead_by (passing (length t.writes - (write + 1)) + 1) 0
ahead_sealed t (task.Fills words) = ahead_by 3 (t.size - words)
ahead_sealed t u = ahead_by 0 0

abbrev pub ahead_decided : Attempt → (back : ℕ) → Task → Ahead
ahead_decided t back (task.Ends raised ended step cleared) = ahead_by 2 (back_left t back + end_left t raised ended step cleared)
ahead_decided t back u = ahead_by 0 0

-- A begin has three steps, and a seal. A settle goes on to the end of its transaction.
abbrev pub ahead_at : Attempt → (back : ℕ) → Place → Task → Ahead
ahead_at t back (Begun tail) u = ahead_by 2 0
ahead_at t back (Announced tail) u = ahead_by 1 0
ahead_at t back (Active tail) u = ahead_active t u
ahead_at t back (Sealing tail) u = ahead_by 2 0
ahead_at t back (Drawn tail stamp) u = ahead_by 1 0
ahead_at t back (Sealed tail stamp) u = ahead_sealed t u
ahead_at t back (Decided tail stamp) u = ahead_decided t back u
ahead_at t back (Leaving stamp) u = ahead_by 1 0
ahead_at t back p u = ahead_by 0 0

-- what lies ahead of a seat in its call: nothing where it is in none
abbrev pub ahead : Part → Ahead
ahead x = ahead_at x.current x.back x.place x.task

-- a step that moves a seat on leaves less ahead of it
abbrev pub ComesNearer : (c : Core) (seat : ℕ) (step : Kind) → MovesOn c seat step → Type 0
ComesNearer c seat step m = IsLess (ahead (m.after.seats seat)) (ahead (c.seats seat))

-- from one state to the next the seat takes its next step, which moves it on
pub record TakesNext (seat : ℕ) (c d : Core) : Type 0 where
  pub block : Written
  pub step : MovesOn c seat (next_kind block (c.seats seat))
  pub is : step.after ≡ d

-- A run of sound states in which a seat stays in calls and takes next steps again and again. Between them its part is as it
-- was, as events of other seats leave it, and looks that find nobody clear.
pub record GoesOnForEver (seat : ℕ) (run : ℕ → Core) : Type 0 where
  pub sound : (n : ℕ) → Sound (run n)
  pub in_call : (n : ℕ) → IsInCall ((run n).seats seat).place ((run n).seats seat).task
  pub each : (n : ℕ) → TakesNext seat (run n) (run (n + 1)) ⊎ ((run (n + 1)).seats seat ≡ (run n).seats seat)
  pub again : (n : ℕ) → (k : ℕ) × (n ≤ k) × TakesNext seat (run k) (run (k + 1))
