-- A disk that held the log at a moment, and each image since.
use Rattle.std.proofs.Common.{◌≡◌, List, [], ◌++◌, Option, Some, None, IfSome, append-nil, refl, sym, subst}
use Rattle.erm_block.specs.declared.block.Block.{Block}
use Rattle.erm_checkpoint.specs.Taken.{HoldsLog, state_at}
use Rattle.erm_ckpt.specs.declared.slot.Slots.{Slots}
use Rattle.erm_crash.specs.Kept.{KeepsBlocks, KeepsSince}
use Rattle.erm_crash.proofs.Moments.{stopped_more, weaker}
use Rattle.erm_model.specs.RowTransaction.{Law}
use Rattle.erm_outside.specs.Disk.{Step}
use Rattle.erm_rule.specs.declared.view.Start.{Start}
use Rattle.erm_world.specs.Log.{Log, place_behind}
use Rattle.erm_desk.specs.Desk.{HeldSince, IsHeld, WritesSince}
use Rattle.erm_desk.specs.Known.{flushed_log}

-- what the crate below says of a log that a disk holds
abbrev pub Begins : Law → Type 0
Begins law = (log : Log) (slots : Slots) (steps : List Step) → HoldsLog law.meets log slots steps → KeepsSince law.meets log.flushed log slots steps steps

module _ (law : Law) (begins : Begins law) (o : Start) where
  held_now : (blocks : List Block) (now : List Step) → IsHeld law o blocks now → KeepsBlocks law.meets (state_at (flushed_log o blocks) []) blocks (place_behind o.tail blocks) now now
  held_now blocks now (slots, held) =
      let from = state_at (flushed_log o blocks) [] in
      let place = place_behind o.tail blocks in
      let since = begins (flushed_log o blocks) slots now held in
      subst (λ (bs : List Block). KeepsBlocks law.meets from bs place now now) (sym since.split)
      (weaker _ _ now now (λ moment image keeps tears. stopped_more law.meets from since.front since.rest place moment image (keeps tears)) since.moments)

  since_held : (blocks : List Block) (old now more : List Step) → now ≡ more ++ old → IsHeld law o blocks now → HeldSince law o blocks [] old now
  since_held blocks old now more steps held = record {
    mid = now;
    moment = record { before = more; since = steps; after = []; later = refl };
    held = held;
    keeps = subst (λ (bs : List Block). KeepsBlocks law.meets (state_at (flushed_log o bs) []) bs (place_behind o.tail blocks) now now) (sym (append-nil blocks)) (held_now blocks now held);
  }

  -- it holds it now
  pub all_held : (told began : Option (List Step)) (blocks wrote : List Block) → IfSome told (IsHeld law o blocks) → IfSome told (λ now. IfSome began (λ old. WritesSince o wrote old now))
      → IfSome told (λ now. IfSome began (λ old. HeldSince law o blocks [] old now))
  all_held None began blocks wrote held writes = tt
  all_held (Some now) None blocks wrote held writes = tt
  all_held (Some now) (Some old) blocks wrote held writes = since_held blocks old now writes.0 writes.1 held
