-- How far the log has come at least, and is synced at least, after what a call met.
use Rattle.std.specs.Prelude.{ℕ, ◌+◌, ◌<◌, ◌^◌, max, Result, Ok, Err}
use Rattle.erm_model.specs.declared.outcome.Outcome.{Outcome}
use Rattle.erm_model.specs.declared.row_stop.RowStop.{RowStop}
use Rattle.erm_model.specs.declared.row_stop.RowStop.TheVariants as stop
use Rattle.erm_precommit.specs.declared.answer.Wait as answer
use Rattle.erm_precommit.specs.declared.answer.Wait.TheVariants as found
use Rattle.erm_world.specs.declared.stops.BeginStop.{BeginStop}
use Rattle.erm_world.specs.declared.stops.BeginStop.TheVariants as begin
use Rattle.erm_world.specs.declared.stops.NotFlushed.{NotFlushed}
use Rattle.erm_world.specs.declared.stops.SafeStop.{SafeStop}
use Rattle.erm_world.specs.declared.stops.SafeStop.TheVariants as safe
use Rattle.erm_world.specs.declared.stops.Wait.{Wait}
use Rattle.erm_world.specs.declared.stops.Wait.TheVariants as wait

-- a begin met the log's end at its begin stamp, or where no transaction begins any more
abbrev pub tail_after : ℕ → Result ℕ BeginStop → ℕ
tail_after tail (Ok at) = at
tail_after tail (Err (begin.LogEnd at)) = at
tail_after tail (Err why) = tail

-- a look met the log synced up to this place, or up to another one below it
abbrev pub flushed_after : (flushed end : ℕ) → Result (Unit {0}) NotFlushed → ℕ
flushed_after flushed end (Ok done) = max flushed end
flushed_after flushed end (Err stop) = stop.flushed

-- a settle met the log synced up to this place, which leaves no room for its block
abbrev pub flushed_met : ℕ → Result Outcome answer.Wait → ℕ
flushed_met flushed (Ok outcome) = flushed
flushed_met flushed (Err (found.Ring at)) = at
flushed_met flushed (Err (found.Seat seat seen)) = flushed

-- for whom, or for what, a settle waits, and what it answers
abbrev pub wait_of : answer.Wait → Wait
wait_of (found.Ring flushed) = wait.Ring flushed
wait_of (found.Seat seat seen) = wait.Seat seat seen

abbrev pub settled_of : Result Outcome answer.Wait → Result Outcome Wait
settled_of (Ok outcome) = Ok outcome
settled_of (Err why) = Err (wait_of why)

-- a stamp that a refusal tells of a commit lies below 2 ^ 61, as the whole log does
abbrev pub IsLowStop : RowStop → Type 0
IsLowStop (stop.Excluded succ pred) = pred < 2 ^ 61
IsLowStop (stop.Newer stamp) = stamp < 2 ^ 61
IsLowStop why = Unit {0}

-- the log's end lies above the stamp of a commit that was met
abbrev pub tail_past : ℕ → RowStop → ℕ
tail_past tail (stop.Excluded succ pred) = max tail (pred + 1)
tail_past tail (stop.Newer stamp) = max tail (stamp + 1)
tail_past tail why = tail

abbrev pub tail_met : {X : Type 0} → ℕ → Result X RowStop → ℕ
tail_met tail (Ok done) = tail
tail_met tail (Err why) = tail_past tail why

-- so does the one that a look tells of a commit that went back
abbrev pub IsLowSafeStop : SafeStop → Type 0
IsLowSafeStop (safe.NotYet other seen) = Unit {0}
IsLowSafeStop (safe.Unsafe other stamp) = stamp < 2 ^ 61

abbrev pub tail_looked : ℕ → Result (Unit {0}) SafeStop → ℕ
tail_looked tail (Ok done) = tail
tail_looked tail (Err (safe.NotYet other seen)) = tail
tail_looked tail (Err (safe.Unsafe other stamp)) = max tail (stamp + 1)

-- what a claim answers: nothing but that it was made
abbrev pub done_of : {X : Type 0} → Result X RowStop → Result (Unit {0}) RowStop
done_of (Ok done) = Ok tt
done_of (Err why) = Err why
