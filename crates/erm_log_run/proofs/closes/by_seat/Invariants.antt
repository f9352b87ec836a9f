use Rattle.std.proofs.Common.{◌≡◌, ◌≤◌, ◌<◌, ℕ, length, map, slice_index_or, take, None}
use Rattle.erm_summary.specs.Told.{closed_of}
use Rattle.erm_log_run.specs.Closing.{closes_from}
use Rattle.erm_log_run.proofs.closes.by_seat.Given as goal

-- the sessions so far are listed, and how the others ended still stands there
abbrev pub invariant-loop-place : goal.invariant-loop-place
invariant-loop-place l =
    (length l.ends.items ≡ l.sessions) × (length l.closed.items ≤ l.place) × (map closed_of l.closed.items ≡ closes_from 1 (take l.place l.fn.ends.items))
    × ((k : ℕ) → l.place ≤ k → k < l.sessions → slice_index_or l.ends.items k None ≡ slice_index_or l.fn.ends.items k None)
