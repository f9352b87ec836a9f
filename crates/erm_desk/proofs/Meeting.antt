-- Which blocks recovery meets on a desk's disk.
use Rattle.std.proofs.Common.{◌≡◌, List, [], ◌++◌, Option, Some, None, IfSome, refl, sym, subst}
use Rattle.erm_block.specs.declared.block.Block.{Block}
use Rattle.erm_checkpoint.specs.Taken.{HoldsLog}
use Rattle.erm_ckpt.specs.declared.slot.Slots.{Slots}
use Rattle.erm_flush.specs.Turns.{HoldsFrom}
use Rattle.erm_model.specs.RowTransaction.{Law}
use Rattle.erm_outside.specs.Disk.{Step, Tells}
use Rattle.erm_rule.specs.declared.view.Start.{Start}
use Rattle.erm_told_log.specs.Tail.{MeetsTail}
use Rattle.erm_world.specs.Log.{IsLog, Log, place_behind}
use Rattle.erm_desk.specs.Desk.{IsHeld, MeetsMore}
use Rattle.erm_desk.specs.Known.{flushed_log}

-- what the crate below says of a log that was flushed further
abbrev pub MeetMore : Law → Type 0
MeetMore law = (earlier : List Block) (before now : Log) (slots later : Slots) (old new : List Step) → MeetsTail law.meets earlier before slots old
    → HoldsFrom law.meets before.flushed now old new → HoldsLog law.meets now later new → now.opened ≡ before.opened
    → ((rest : List Block) × (now.gathered ≡ before.gathered ++ rest)) → IsLog law.meets now → MeetsTail law.meets earlier now later new

-- at first these are none
pub meets_still : (law : Law) (o : Start) (told : Option (List Step)) → IfSome told (λ now. IfSome told (λ old. MeetsMore law o [] old now))
meets_still law o None = tt
meets_still law o (Some now) = λ earlier first meets. (first, meets)

module _ (law : Law) (meet : MeetMore law) (o : Start) (blocks more : List Block) (log : IsLog law.meets (flushed_log o (blocks ++ more))) where
  meets_later : (old now new : List Step) → MeetsMore law o blocks old now → HoldsFrom law.meets (place_behind o.tail blocks) (flushed_log o (blocks ++ more)) now new
      → IsHeld law o (blocks ++ more) new → MeetsMore law o (blocks ++ more) old new
  meets_later old now new met lasts (later, held) = λ earlier first meets.
      let (slots, tail) = met earlier first meets in
      (later, meet earlier (flushed_log o blocks) (flushed_log o (blocks ++ more)) slots later now new tail lasts held refl (more, refl) log)

  -- behind blocks that were flushed recovery meets these too
  pub meets_flushed : (began was told : Option (List Step)) → IfSome was (λ now. IfSome began (λ old. MeetsMore law o blocks old now))
      → Tells (HoldsFrom law.meets (place_behind o.tail blocks) (flushed_log o (blocks ++ more))) was told → IfSome told (IsHeld law o (blocks ++ more))
      → IfSome told (λ now. IfSome began (λ old. MeetsMore law o (blocks ++ more) old now))
  meets_flushed began None told met lasts held = subst (λ (x : Option (List Step)). IfSome x (λ now. IfSome began (λ old. MeetsMore law o (blocks ++ more) old now))) (sym lasts) tt
  meets_flushed None (Some now) told met (new, is_new, lasts) held = subst (λ (x : Option (List Step)). IfSome x (λ at. IfSome None (λ (old : List Step). MeetsMore law o (blocks ++ more) old at))) (sym is_new) tt
  meets_flushed (Some old) (Some now) told met (new, is_new, lasts) held =
      subst (λ (x : Option (List Step)). IfSome x (λ at. MeetsMore law o (blocks ++ more) old at)) (sym is_new)
      (meets_later old now new met lasts (subst (λ (x : Option (List Step)). IfSome x (IsHeld law o (blocks ++ more))) is_new held))
