-- What a disk tells where a checkpoint is taken below the place flushed, as far as it tells.
use Rattle.std.proofs.Common.{ℕ, ◌≤◌, ◌⊎◌, ◌↔◌, List, [], length, Option, Some, None, IfSome, refl, sym, ap, subst}
use Rattle.erm_model.specs.Rows.{Rows, rows_of}
use Rattle.erm_model.specs.RowTransaction.{SameRows}
use Rattle.erm_record.specs.Stored.{stored_length}
use Rattle.erm_outside.specs.declared.disk.File.{File}
use Rattle.erm_outside.specs.Disk.{Step, Tells}
use Rattle.erm_world.specs.Log.{IsLog, Log}
use Rattle.erm_ckpt.specs.declared.slot.Slot.{Slot}
use Rattle.erm_ckpt.specs.declared.slot.Slots.{Slots}
use Rattle.erm_ckpt.specs.Checkpoint.{IsCheckpoint, IsSlot, checkpoint_of, rows_of_checkpoint}
use Rattle.erm_ckpt.specs.Slots.{other_of, put_slot, removal_end}
use Rattle.erm_checkpoint.specs.Below.{IsSlotAt}
use Rattle.erm_checkpoint.specs.Phases.{MaySave}
use Rattle.erm_checkpoint.specs.Saved.{AreRowsAt, slot_bytes}
use Rattle.erm_checkpoint.specs.Steps.{SavesAll, SavesPart}
use Rattle.erm_checkpoint.specs.Taken.{HoldsLogFrom, HoldsLogPast, SavedLogPast, SavesLogPast, state_at}
use Rattle.erm_checkpoint.proofs.Past.{may_save_past, saved_past}

module _
    (short : (row : List ℕ) → stored_length row ≤ length row) (sound : Rows → Type 0) (respects : (a b : Rows) → SameRows a b → sound a ↔ sound b)
    (l : Log) (slots : Slots) (slot : Slot) (rows : List (List ℕ)) (is : IsLog sound l) (at : IsSlotAt l slots slot) (read : AreRowsAt l rows) (is_checkpoint : IsSlot slot → IsCheckpoint (checkpoint_of slot rows))
    (same : SameRows (rows_of_checkpoint (checkpoint_of slot rows)) (rows_of rows)) where
  may_at : (steps : List Step) (p : HoldsLogPast sound l slots slot.stamp steps) → MaySave sound (state_at l p.front) [] p.blocks p.holds.pair (checkpoint_of slot rows) steps
  may_at steps p = may_save_past short sound respects l slots slot rows steps p is at.begin at.high at.run at.run_low at.run_high at.first at.pinned read is_checkpoint same

  abbrev Part : List Step → List Step → Type 0
  Part old new = SavesPart (other_of slots) (slot_bytes slot rows) 0 (removal_end slots) old new

  abbrev All : List Step → List Step → Type 0
  All old new = SavesAll (other_of slots) (slot_bytes slot rows) 0 (removal_end slots) old new

  pub told_saves : (before after : Option (List Step)) → IfSome before (HoldsLogPast sound l slots slot.stamp) → Tells (λ old new. Part old new ⊎ All old new) before after
      → Tells (SavesLogPast sound l slots slot) before after
  told_saves None after held told = told
  told_saves (Some old) after p (new, told, saves) = (
    new,
    told,
    record {
      holds = p;
      checkpoint = checkpoint_of slot rows;
      slot_is = refl;
      may = may_at old p;
      saves = subst (λ (file : File). SavesPart file (slot_bytes slot rows) 0 (removal_end slots) old new ⊎ SavesAll file (slot_bytes slot rows) 0 (removal_end slots) old new)
          (ap other_of p.holds.names) saves;
    },
  )

  pub told_done : (before after : Option (List Step)) → IfSome before (HoldsLogPast sound l slots slot.stamp) → Tells All before after → Tells (SavedLogPast sound l slots slot) before after
  told_done None after held told = told
  told_done (Some old) after p (new, told, all) = (
    new,
    told,
    record {
      holds = p;
      checkpoint = checkpoint_of slot rows;
      slot_is = refl;
      may = may_at old p;
      saves = subst (λ (file : File). SavesAll file (slot_bytes slot rows) 0 (removal_end slots) old new) (ap other_of p.holds.names) all;
    },
  )

  pub told_saved : (before after : Option (List Step)) → IfSome before (HoldsLogPast sound l slots slot.stamp) → Tells All before after → IfSome after (HoldsLogFrom sound l (put_slot slots slot) slot.stamp)
  told_saved None after held told = subst (λ (x : Option (List Step)). IfSome x (HoldsLogFrom sound l (put_slot slots slot) slot.stamp)) (sym told) tt
  told_saved (Some old) after p (new, told, all) =
      subst (λ (x : Option (List Step)). IfSome x (HoldsLogFrom sound l (put_slot slots slot) slot.stamp)) (sym told)
      (saved_past short sound respects l slots (checkpoint_of slot rows) old new p (may_at old p)
      (subst (λ (file : File). SavesAll file (slot_bytes slot rows) 0 (removal_end slots) old new) (ap other_of p.holds.names) all))
