-- What a turn of the shared desk tells a worker.
use Rattle.std.specs.Prelude.{ℕ, Result, Err}
use Rattle.erm_flush.specs.declared.stops.FlushStop.{FlushStop}
use Rattle.erm_flush.specs.declared.stops.FlushStop.TheVariants as stop

-- the disk failed at this turn, or had failed before
abbrev pub TellsFailure : Result ℕ FlushStop → Type 0
TellsFailure (Err stop.DiskFault) = Unit {0}
TellsFailure (Err stop.Failed) = Unit {0}
TellsFailure answer = ⊥
