-- Two slots: which is the best, which the next checkpoint writes, and what it removes.
use Rattle.std.specs.Prelude.{ℕ, ◌/◌, max, nat_lt, if◌then◌else◌, Option, Some, None}
use Rattle.erm_model.specs.declared.limits.TheConstants.{SEGMENT_WORDS}
use Rattle.erm_outside.specs.declared.disk.File.{File}
use Rattle.erm_outside.specs.declared.disk.File.TheVariants.{Slot0, Slot1}
use Rattle.erm_ckpt.specs.declared.slot.Slot.{Slot}
use Rattle.erm_ckpt.specs.declared.slot.Slots.{Slots}

-- the segment of a slot's place
abbrev pub segment_of : Slot → ℕ
segment_of slot = slot.stamp / SEGMENT_WORDS

-- of two slots the one with the greater stamp, the first where they are equal
abbrev pub better_slot : Option Slot → Option Slot → Option Slot
better_slot None b = b
better_slot (Some a) None = Some a
better_slot (Some a) (Some b) = if nat_lt a.stamp b.stamp then Some b else Some a

-- the file of the other one: the first where there is none
abbrev pub worse_file : Option Slot → Option Slot → File
worse_file None b = Slot0
worse_file (Some a) None = Slot1
worse_file (Some a) (Some b) = if nat_lt a.stamp b.stamp then Slot0 else Slot1

-- The first segment that isn't known to be removed: with no slot the first of all; with one slot the first that it names; with
-- two the first that the best one names, or the segment of the other one's place, whichever is greater.
abbrev pub first_left : Option Slot → Option Slot → ℕ
first_left None None = 0
first_left None (Some b) = b.first
first_left (Some a) None = a.first
first_left (Some a) (Some b) =
    if nat_lt a.stamp b.stamp then max b.first (segment_of a) else max a.first (segment_of b)

-- where the removals end: at the segment of the slot's place
abbrev pub segment_of_best : Option Slot → ℕ
segment_of_best None = 0
segment_of_best (Some slot) = segment_of slot

-- the best slot
abbrev pub best_of : Slots → Option Slot
best_of slots = better_slot slots.slot0 slots.slot1

-- the file of the slot that the next checkpoint writes: the one that isn't the best
abbrev pub other_of : Slots → File
other_of slots = worse_file slots.slot0 slots.slot1

-- the first segment that the slot of the next checkpoint names; the checkpoint removes from segment 0 on
abbrev pub next_first : Slots → ℕ
next_first slots = first_left slots.slot0 slots.slot1

-- the first segment behind those that the next checkpoint removes
abbrev pub removal_end : Slots → ℕ
removal_end slots = segment_of_best (best_of slots)

-- the slots with another one in a file
abbrev pub slots_with : Slots → File → Slot → Slots
slots_with slots Slot0 slot = record slots { slot0 = Some slot }
slots_with slots _ slot = record slots { slot1 = Some slot }

-- the slots after a checkpoint is written: its slot takes the place of the one that isn't the best
abbrev pub put_slot : Slots → Slot → Slots
put_slot slots slot = slots_with slots (other_of slots) slot
