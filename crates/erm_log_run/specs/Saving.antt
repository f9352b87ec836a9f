-- The slots and the segments that a run leaves, by the checkpoints that its answers tell.
use Rattle.std.specs.Prelude.{◌≡◌, ◌/◌, ◌<◌, ◌≤◌, ◌⊎◌, ℕ, List, [], ◌∷◌, length, max, Option, Some, None, IfSome, Result, Ok, Err}
use Rattle.std.specs.List.{slice_get}
use Rattle.erm_block.specs.declared.block.Block.{Block}
use Rattle.erm_model.specs.Rows.{Rows}
use Rattle.erm_model.specs.declared.limits.TheConstants.{SEGMENT_WORDS}
use Rattle.erm_outside.specs.declared.disk.File.TheVariants.{Segment}
use Rattle.erm_outside.specs.Disk.{IsSettled, Step, Tells, contents}
use Rattle.erm_report.specs.declared.answer.Answer.{Answer}
use Rattle.erm_report.specs.declared.answer.Answer.TheVariants as answer
use Rattle.erm_script.specs.declared.script.Command.{Command}
use Rattle.erm_script.specs.declared.script.Command.TheVariants as command
use Rattle.erm_script.specs.declared.script.ScriptLine.{ScriptLine}
use Rattle.erm_ckpt.specs.declared.slot.Slot.{Slot}
use Rattle.erm_ckpt.specs.declared.slot.Slots.{Slots}
use Rattle.erm_ckpt.specs.Recovered.{Pair, Recovers, slots_of}
use Rattle.erm_ckpt.specs.Slots.{best_of, next_first, put_slot, removal_end}
use Rattle.erm_crash.specs.Moments.{IsMoment}
use Rattle.erm_log_run.specs.declared.stops.LineStop.{LineStop}
use Rattle.erm_log_run.specs.declared.stops.LineStop.TheVariants.{DiskFault, Memory}

-- the place of the last checkpoint, with one answer more
abbrev pub saved_by : Answer → Option ℕ → Option ℕ
saved_by (answer.Checkpointed place) last = Some place
saved_by a last = last

-- and with all of these more
abbrev pub saved_from : Option ℕ → List Answer → Option ℕ
saved_from last [] = last
saved_from last (a ∷ answers) = saved_from (saved_by a last) answers

-- the place of the last checkpoint that answers tell, if one does
abbrev pub saved_at : List Answer → Option ℕ
saved_at answers = saved_from None answers

-- the best of the slots is of a place
pub record IsBestAt (slots : Slots) (place : ℕ) : Type 0 where
  pub slot : Slot
  pub best : best_of slots ≡ Some slot
  pub at : slot.stamp ≡ place

-- With no checkpoint the slots are those from before. Behind one of a place the best slot is of it, as far as the disk tells.
abbrev pub AreSaved : Option ℕ → Option (List Step) → Slots → Slots → Type 0
AreSaved None told old new = new ≡ old
AreSaved (Some place) told old new = IfSome told (λ steps. IsBestAt new place)

-- A checkpoint of a place took the place of the slot that wasn't the best of those from which the disk recovered before, at a moment since the first
-- steps, with nothing pending. The segments below that of the best one's place are gone, and the others are as they were at that moment.
pub record TookPlace (sound : Rows → Type 0) (place : ℕ) (old new : Slots) (first steps : List Step) : Type 0 where
  pub run : ℕ
  pub put : new ≡ put_slot old (record { stamp = place; run = run; first = next_first old })
  pub gone : (n : ℕ) → n < removal_end old → contents steps (Segment n) ≡ []
  pub was : List Step
  pub moment : IsMoment first steps was
  pub settled : IsSettled was
  pub pair : Pair
  pub blocks : List Block
  pub recovers : Recovers sound (contents was) pair blocks
  pub names : old ≡ slots_of pair
  pub kept : (n : ℕ) → removal_end old ≤ n → contents steps (Segment n) ≡ contents was (Segment n)

-- so it is behind an answer that tells one, as far as the disk tells
abbrev pub Removes : (Rows → Type 0) → Answer → Option (List Step) → Option (List Step) → Slots → Slots → Type 0
Removes sound (answer.Checkpointed place) before after old new = Tells (TookPlace sound place old new) before after
Removes sound a before after old new = Unit {0}

-- the log's segments below that of a place are as they were
abbrev pub SparesOlder : ℕ → List Step → List Step → Type 0
SparesOlder place old new = (n : ℕ) → n < place / SEGMENT_WORDS → contents new (Segment n) ≡ contents old (Segment n)

-- where the removals of the next checkpoint end, by the slots at first and the place of the last checkpoint told: at the segment of the best slot's place
abbrev pub next_end : Slots → Option ℕ → ℕ
next_end slots None = removal_end slots
next_end slots (Some place) = place / SEGMENT_WORDS

-- where those of an answer's line end
abbrev pub end_by : Slots → Option ℕ → Answer → ℕ
end_by slots last (answer.Checkpointed place) = next_end slots last
end_by slots last a = 0

-- the greatest end, with all of these answers more
abbrev pub end_from : Slots → Option ℕ → ℕ → List Answer → ℕ
end_from slots last end [] = end
end_from slots last end (a ∷ answers) = end_from slots (saved_by a last) (max end (end_by slots last a)) answers

-- the end of the segments that were removed behind all answers
abbrev pub removed_to : Slots → List Answer → ℕ
removed_to slots answers = end_from slots None 0 answers

-- where the removals of a command end at most, by where those of a checkpoint would: only a checkpoint removes segments
abbrev pub end_of_command : Command → ℕ → ℕ
end_of_command command.Checkpoint end = end
end_of_command c end = 0

-- where those of a script's next line end at most, by the slots at first and the place of the last checkpoint told; behind the last line nothing is removed
abbrev pub end_of_line : Slots → Option ℕ → Option ScriptLine → ℕ
end_of_line slots last None = 0
end_of_line slots last (Some l) = end_of_command l.command (next_end slots last)

-- the end of the segments that may be gone where a script's next line was begun, behind all answers
abbrev pub removing_to : Slots → List ScriptLine → List Answer → ℕ
removing_to slots script answers = max (removed_to slots answers) (end_of_line slots (saved_at answers) (slice_get script (length answers)))

-- All segments below an end are gone, which is at or below that of a later place. Of the others those below that of an earlier place are as they were.
pub record AreRemoved (end place later : ℕ) (old new : List Step) : Type 0 where
  pub gone : (n : ℕ) → n < end → contents new (Segment n) ≡ []
  pub stay : (n : ℕ) → end ≤ n → n < place / SEGMENT_WORDS → contents new (Segment n) ≡ contents old (Segment n)
  pub within : end ≤ later / SEGMENT_WORDS

-- each of the log's segments below that of a place is as it was, or it lies below an end and is gone
abbrev pub MayBeRemoved : ℕ → ℕ → List Step → List Step → Type 0
MayBeRemoved end place old new =
    (n : ℕ) → n < place / SEGMENT_WORDS → (contents new (Segment n) ≡ contents old (Segment n)) ⊎ ((n < end) × (contents new (Segment n) ≡ []))

-- what a call removed, as far as the disk tells, by the places up to which the log was flushed before and after; and what it may have removed where
-- the disk failed
abbrev pub RemovesTo : {T : Type 0} → Result T LineStop → (T → ℕ) → ℕ → ℕ → ℕ → Option (List Step) → Option (List Step) → Type 0
RemovesTo (Ok x) end most place later before after = Tells (AreRemoved (end x) place later) before after
RemovesTo (Err DiskFault) end most place later before after = Tells (MayBeRemoved most place) before after
RemovesTo (Err Memory) end most place later before after = Unit {0}
