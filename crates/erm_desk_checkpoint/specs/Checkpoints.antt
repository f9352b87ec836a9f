-- What a checkpoint turn of a desk does, and what it answers.
use Rattle.std.specs.Prelude.{◌≡◌, ◌⊎◌, ℕ, ◌≤◌, true, false, Some, Result, Ok, Err}
use Rattle.erm_checkpoint.specs.declared.stops.CheckpointStop.{CheckpointStop}
use Rattle.erm_checkpoint.specs.declared.stops.CheckpointStop.TheVariants.{Failed}
use Rattle.erm_checkpoint.specs.Below.{SavesKnown, SavesPinned}
use Rattle.erm_checkpoint.specs.Taken.{Counts}
use Rattle.erm_ckpt.specs.declared.slot.Slot.{Slot}
use Rattle.erm_ckpt.specs.declared.slot.Slots.{Slots}
use Rattle.erm_ckpt.specs.Slots.{next_first}
use Rattle.erm_desk.specs.Desk.{Sees}
use Rattle.erm_desk.specs.Known.{KnowsLog, ended_log}
use Rattle.erm_desk.specs.Turns.{DidPin, DidWait, EndsPin, FlushSteps}
use Rattle.erm_model.specs.RowTransaction.{Law}
use Rattle.erm_rule.specs.declared.view.Book.{Book}
use Rattle.erm_rule.specs.declared.view.Start.{Start}
use Rattle.erm_world.specs.Log.{Log}
use Rattle.erm_desk_checkpoint.specs.Turns.{FlushesOn, FlushesPast, HoldsKnown, KeepsFlushed}

-- THE SAVE. Of a log that is flushed up to the slot's place or past it, the rows as of it were read, and the checkpoint was saved below what is
-- flushed; or why it wasn't: a row that isn't known yet, or the disk. The pass took steps of its flush seat alone, and the log stayed as it is known.
pub record SavesOn (law : Law) (slots : Slots) (slot : Slot) (answer : Result Unit CheckpointStop) (l : Log) (s t : Sees) : Type 0 where
  pub low : slot.stamp ≤ l.flushed
  pub saves : SavesPinned (KnowsLog law) (DidWait law) answer t.failed s.book t.book
  pub known : SavesKnown law.meets answer l slots slot s.told t.told
  pub counts : Counts answer s.faults t.faults
  pub knows : KnowsLog law t.book l
  pub steps : FlushSteps law s.book t.book

-- turns flushed the log up to the slot's place or past it, and then that was done
abbrev pub SavesBehind : Law → Slots → Slot → Result Unit CheckpointStop → Log → Sees → Sees → Type 0
SavesBehind law slots slot answer l s t = (m : Log) × (mid : Sees) × FlushesOn law l m s mid × HoldsKnown law slots m mid × SavesOn law slots slot answer m mid t

-- what lies between the pin and its end answers: where it stopped, it did so at the turns or at the save
abbrev pub FlushesAndSaves : Law → Slots → Slot → Result Unit CheckpointStop → Log → Sees → Sees → Type 0
FlushesAndSaves law slots slot (Ok x) l s t = SavesBehind law slots slot (Ok x) l s t
FlushesAndSaves law slots slot (Err stop) l s t = FlushesPast law slots (Err stop) slot.stamp l s t ⊎ SavesBehind law slots slot (Err stop) l s t

-- the slot of a checkpoint of such a table's log as of this place
abbrev pub slot_of : Start → ℕ → Slots → Slot
slot_of o stamp slots = record { stamp = stamp; run = o.run; first = next_first slots }

-- A CHECKPOINT TURN. The log, which is known, was pinned at its end, this place; then its turns and the save were done, or where they stopped; and the
-- pin was ended, by which nothing else changed. Whatever it answers, at each moment each image of the disk recovers to a front of the blocks known
-- then, to all that was flushed before the turn at least. The pass took steps of its flush seat alone.
pub record Checkpoints (law : Law) (o : Start) (slots : Slots) (place : ℕ) (answer : Result Unit CheckpointStop) (s t : Sees) : Type 0 where
  pub pinned : Book
  pub pins : DidPin law s.book place pinned
  pub log : Log
  pub low : log.tail ≤ place
  pub last : Sees
  pub saves : FlushesAndSaves law slots (slot_of o place slots) answer (ended_log log place (Some place)) (record s { book = pinned }) last
  pub ends : EndsPin law last.book t.book
  pub same : t ≡ record last { book = t.book }
  pub keeps : KeepsFlushed law o log s t
  pub steps : FlushSteps law s.book t.book

-- What it answers: `Ok` with the place of the checkpoint that was saved, or why it wasn't. It answers `Failed` exactly where the disk failed at an
-- earlier turn, and then does nothing.
abbrev pub CheckpointsTo : Law → Start → Slots → Result ℕ CheckpointStop → Sees → Sees → Type 0
CheckpointsTo law o slots (Ok stamp) s t = (s.failed ≡ false) × Checkpoints law o slots stamp (Ok tt) s t
CheckpointsTo law o slots (Err Failed) s t = (s.failed ≡ true) × (t ≡ s)
CheckpointsTo law o slots (Err stop) s t = (s.failed ≡ false) × ((place : ℕ) × Checkpoints law o slots place (Err stop) s t)
