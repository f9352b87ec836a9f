-- A checkpoint of a log that others may go on writing, at the place pinned: what taking one asks and answers.
use Rattle.std.specs.Prelude.{◌≡◌, ◌<◌, ◌≤◌, ℕ, Bool, false, IsTrue, List, Option, Some, IfSome, Result, Ok, Err}
use Rattle.erm_ckpt.specs.declared.slot.Slot.{Slot}
use Rattle.erm_ckpt.specs.declared.slot.Slots.{Slots}
use Rattle.erm_ckpt.specs.declared.slot.TheConstants.{LOG_START}
use Rattle.erm_ckpt.specs.Slots.{next_first, put_slot}
use Rattle.erm_model.specs.declared.limits.TheConstants.{LAST_RUN, LOG_END}
use Rattle.erm_model.specs.Rows.{Rows}
use Rattle.erm_outside.specs.Disk.{Step, Tells}
use Rattle.erm_world.specs.declared.gathered.SeatWait.{SeatWait}
use Rattle.erm_world.specs.Log.{Log}
use Rattle.erm_checkpoint.specs.declared.stops.CheckpointStop.{CheckpointStop}
use Rattle.erm_checkpoint.specs.declared.stops.CheckpointStop.TheVariants.{DiskFault, Failed, NotYet, Unfilled}
use Rattle.erm_checkpoint.specs.Saved.{WaitsFrom}
use Rattle.erm_checkpoint.specs.Taken.{HoldsLogFrom, SavedLogPast, SavesLogPast}

-- a slot is one that a checkpoint of this log may have, as of its pin
pub record IsSlotAt (log : Log) (slots : Slots) (slot : Slot) : Type 0 where
  pub begin : LOG_START < log.opened.at
  pub high : log.opened.at ≤ LOG_END
  pub run : slot.run ≡ log.opened.run
  pub run_low : 1 ≤ slot.run
  pub run_high : slot.run ≤ LAST_RUN
  pub first : slot.first ≡ next_first slots
  pub pinned : log.pinned ≡ Some slot.stamp

-- What it answers, by the states of the log before and after, and by whether the flusher has failed after. It is stopped by a row that
-- isn't known yet, or by the disk alone.
abbrev pub SavesPinned : {S : Type 0} → (knows : S → Log → Type 0) → (waits : S → ℕ → SeatWait → S → Type 0) → Result Unit CheckpointStop → Bool → S → S → Type 0
SavesPinned knows waits (Ok _) now s t = now ≡ false
SavesPinned knows waits (Err (NotYet seat seen)) now s t = (now ≡ false) × WaitsFrom knows waits s (record { seat = seat; seen = seen }) t
SavesPinned knows waits (Err DiskFault) now s t = IsTrue now
SavesPinned knows waits (Err (Unfilled at)) now s t = ⊥
SavesPinned knows waits (Err Failed) now s t = ⊥

-- What that means for a log that was known, and for a disk that held it past the place pinned.
abbrev pub SavesKnown : (Rows → Type 0) → Result Unit CheckpointStop → Log → Slots → Slot → (before after : Option (List Step)) → Type 0
SavesKnown sound (Ok _) l slots slot before after =
    Tells (SavedLogPast sound l slots slot) before after × IfSome after (HoldsLogFrom sound l (put_slot slots slot) slot.stamp)
SavesKnown sound (Err (NotYet seat seen)) l slots slot before after = after ≡ before
SavesKnown sound (Err DiskFault) l slots slot before after = Tells (SavesLogPast sound l slots slot) before after
SavesKnown sound (Err (Unfilled at)) l slots slot before after = ⊥
SavesKnown sound (Err Failed) l slots slot before after = ⊥
