-- The slots of a run, while its answers tell of checkpoints.
use Rattle.std.proofs.Common.{◌≡◌, ◌≢◌, ℕ, ◌++◌, List, [], ◌∷◌, Option, Some, None, IfSome, Ok, Err, OnOk, refl, sym, ap, ◌∙◌, subst, arith}
use Rattle.std.specs.Prelude.{Result}
use Rattle.std.specs.Option.{option_map}
use Rattle.erm_model.specs.Rows.{Rows}
use Rattle.erm_outside.specs.Disk.{Step, Tells}
use Rattle.erm_report.specs.declared.answer.Answer.{Answer}
use Rattle.erm_report.specs.declared.answer.Answer.TheVariants as answer
use Rattle.erm_script.specs.declared.script.ScriptLine.{ScriptLine}
use Rattle.erm_world.specs.Log.{Log}
use Rattle.erm_world.specs.World.{View}
use Rattle.erm_ckpt.specs.declared.slot.Slots.{Slots}
use Rattle.erm_ckpt.specs.Checkpoint.{Checkpoint}
use Rattle.erm_ckpt.specs.Recovered.{Pair, best, slots_of, state_of}
use Rattle.erm_ckpt.specs.Slots.{best_of, next_first, put_slot}
use Rattle.erm_ckpt.proofs.Choices.{best_slot}
use Rattle.erm_checkpoint.specs.Taken.{HoldsLogFrom, TakesAll, slot_at_end}
use Rattle.erm_checkpoint.proofs.Segments.{saving_more, saving_spares}
use Rattle.erm_crash.specs.Kept.{KeepsSince}
use Rattle.erm_flush.specs.Turns.{WritesFrom}
use Rattle.erm_lines.specs.Answers.{DidLine}
use Rattle.erm_log_run.specs.Keeping.{IsHeld, Keeper, KeepsOn}
use Rattle.erm_log_run.specs.Saving.{AreSaved, IsBestAt, Removes, TookPlace, saved_at, saved_by, saved_from}
use Rattle.erm_log_run.proofs.Reached.{no_checkpoint}
use Rattle.erm_log_run.specs.Acknowledged.{GoesOnFrom}
use Rattle.erm_log_run.proofs.Held.{tells_weaker}
use Rattle.erm_log_run.proofs.Told.{LogsBegin, kept_now}

-- one answer more
pub saved_push : (last : Option ℕ) (answers : List Answer) (a : Answer) → saved_from last (answers ++ a ∷ []) ≡ saved_by a (saved_from last answers)
saved_push last [] a = refl
saved_push last (b ∷ bs) a = saved_push (saved_by b last) bs a

-- the best slot of slots that name checkpoints, of which the best one is there
named_best : (slots : Slots) (pair : Pair) (place : ℕ) → slots ≡ slots_of pair → best pair ≢ None → (state_of (best pair)).at ≡ place → IsBestAt slots place
named_best slots pair place names some at = by (best pair) refl some at
  where
    by : (o : Option Checkpoint) → best pair ≡ o → o ≢ None → (state_of o).at ≡ place → IsBestAt slots place
    by None is some at = absurd (some refl)
    by (Some c) is some at = record {
      slot = c.slot;
      best = ap best_of names ∙ best_slot pair ∙ ap (λ (o : Option Checkpoint). option_map (λ checkpoint. checkpoint.slot) o) is;
      at = at;
    }

-- after a checkpoint
pub checkpoint_saved : (sound : Rows → Type 0) (log : Log) (slots : Slots) (place : ℕ) (told : Option (List Step)) → IfSome told (HoldsLogFrom sound log slots place) → IfSome told (λ steps. IsBestAt slots place)
checkpoint_saved sound log slots place None lasts = lasts
checkpoint_saved sound log slots place (Some steps) lasts = named_best slots lasts.holds.pair place lasts.holds.names lasts.some lasts.from

-- a checkpoint that was taken took its place
pub took_place : (sound : Rows → Type 0) (flushed : ℕ) (log : Log) (old new : Slots) (run place : ℕ) (first steps : List Step) → log.tail ≡ place → new ≡ put_slot old (slot_at_end log run old)
    → TakesAll sound flushed log old (slot_at_end log run old) first steps → TookPlace sound place old new first steps
took_place sound flushed log old new run place first steps tail put all = record {
  run = run;
  put = put ∙ ap (λ (n : ℕ). put_slot old (record { stamp = n; run = run; first = next_first old })) tail;
  gone = λ n low. all.saves.gone n (omega arith) low;
  was = all.mid;
  moment =
      let writes = all.flushes.writes in
      let more = saving_more sound flushed log old (slot_at_end log run old) first steps all in
      record { before = writes.more; since = writes.steps; after = more.0; later = more.1 };
  settled = all.holds.ready.settled;
  pair = all.holds.pair;
  blocks = all.holds.there.blocks;
  recovers = all.holds.there.recovers;
  names = all.holds.names;
  kept = λ n out. saving_spares sound flushed log old (slot_at_end log run old) first steps all n out;
}

-- and what it removed
pub checkpoint_removes : (sound : Rows → Type 0) (flushed : ℕ) (log : Log) (old new : Slots) (run place : ℕ) (before told : Option (List Step)) → log.tail ≡ place → new ≡ put_slot old (slot_at_end log run old)
    → Tells (TakesAll sound flushed log old (slot_at_end log run old)) before told → Removes sound (answer.Checkpointed place) before told old new
checkpoint_removes sound flushed log old new run place before told tail put takes =
    tells_weaker (TakesAll sound flushed log old (slot_at_end log run old)) (TookPlace sound place old new) before told (λ first steps all. took_place sound flushed log old new run place first steps tail put all) takes

-- a flusher goes on from where it was
pub writes_on : (sound : Rows → Type 0) (place : ℕ) (log : Log) (before after : Option (List Step)) → Tells (WritesFrom sound place log) before after → Tells GoesOnFrom before after
writes_on sound place log before after = tells_weaker (WritesFrom sound place log) GoesOnFrom before after (λ old new w. (w.writes.more, w.writes.steps))

-- a line of a session removes nothing
pub session_removes : (sound : Rows → Type 0) (v t : View) (l : ScriptLine) (a : Answer) (told : Option (List Step)) (slots : Slots) → DidLine v l a t → Removes sound a told told slots slots
session_removes sound v t l (answer.Checkpointed place) told slots did = absurd (no_checkpoint v t l place did)
session_removes sound v t l a told slots did = tt

-- a line of a session leaves the slots
pub session_saved : (v t : View) (l : ScriptLine) (a : Answer) (told : Option (List Step)) (slots : Slots) → DidLine v l a t → AreSaved (saved_by a None) told slots slots
session_saved v t l (answer.Checkpointed place) told slots did = absurd (no_checkpoint v t l place did)
session_saved v t l a told slots did = refl

-- slots that stay
pub saved_still : (last : Option ℕ) (told : Option (List Step)) (first old new : Slots) → new ≡ old → AreSaved last told first old → AreSaved last told first new
saved_still last told first old new same saved = subst (λ (s : Slots). AreSaved last told first s) (sym same) saved

-- what the disk told before it tells still
before_too : (P : List Step → List Step → Type 0) (X : Type 0) (before after : Option (List Step)) → Tells P before after → IfSome after (λ steps. X) → IfSome before (λ steps. X)
before_too P X None after told x = tt
before_too P X (Some old) after (new, told, p) x = subst (λ (o : Option (List Step)). IfSome o (λ steps. X)) told x

-- the slots behind one answer more
pub saved_more : (sound : Rows → Type 0) → LogsBegin sound → (first k m : Keeper) (answers : List Answer) (a : Answer) → IsHeld sound first → KeepsOn sound first m
    → AreSaved (saved_at answers) first.told first.slots k.slots → AreSaved (saved_by a None) m.told k.slots m.slots → AreSaved (saved_at (answers ++ a ∷ [])) first.told first.slots m.slots
saved_more sound begins first k m answers a held on saved more =
    subst (λ (last : Option ℕ). AreSaved last first.told first.slots m.slots) (sym (saved_push None answers a)) (by a (saved_from None answers) saved more)
  where
    by : (b : Answer) (last : Option ℕ) → AreSaved last first.told first.slots k.slots → AreSaved (saved_by b None) m.told k.slots m.slots → AreSaved (saved_by b last) first.told first.slots m.slots
    by (answer.Checkpointed place) last saved more =
        before_too (KeepsSince sound first.log.flushed m.log m.slots) (IsBestAt m.slots place) first.told m.told
        (on.keeps first.told first.log.flushed (omega arith) (kept_now sound begins first held)) more
    by b last saved more = saved_still last first.told first.slots k.slots m.slots more saved

-- and where a call behind the last answer leaves them
pub saved_then : {T E : Type 0} (r : Result T E) (last : Option ℕ) (told : Option (List Step)) (first old new : Slots) → AreSaved last told first old → OnOk r (new ≡ old) → OnOk r (AreSaved last told first new)
saved_then (Ok x) last told first old new saved same = saved_still last told first old new same saved
saved_then (Err e) last told first old new saved same = tt
