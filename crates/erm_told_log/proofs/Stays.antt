-- What recovery meets of a log that calls of sessions leave.
use Rattle.std.proofs.Common.{◌≡◌, ℕ, ◌+◌, List, [], ◌∷◌, ◌++◌, sym, ap, ◌∙◌, subst}
use Rattle.erm_model.specs.Member.{◌∈◌}
use Rattle.erm_model.specs.RowTransaction.{Law}
use Rattle.erm_record.proofs.StoredRows.{stored_length-le, stored_whole}
use Rattle.erm_block.specs.declared.block.Block.{Block}
use Rattle.erm_block.proofs.OneLogList.{same_log_list}
use Rattle.erm_outside.specs.Disk.{Step, contents}
use Rattle.erm_ckpt.specs.declared.slot.Slots.{Slots}
use Rattle.erm_ckpt.specs.Recovered.{Pair, base}
use Rattle.erm_ckpt.proofs.OneRecovery.{same_recovery}
use Rattle.erm_checkpoint.specs.Taken.{HoldsLog, state_at}
use Rattle.erm_checkpoint.proofs.Taken.{place_is}
use Rattle.erm_world.specs.Laws.{IsSerializable}
use Rattle.erm_world.specs.Log.{IsLog, Log, StandFrom, place_behind}
use Rattle.erm_world.specs.Whole.{IsBlockOf, IsLogOf}
use Rattle.erm_world.specs.World.{Opening, View}
use Rattle.erm_world.proofs.Blocks.{chain_stands, one_list, stays_block}
use Rattle.erm_world.proofs.Lists.{∈-before}
use Rattle.erm_crash.specs.Kept.{LeavesLog}
use Rattle.erm_crash.proofs.Stays.{held_stays}
use Rattle.erm_told_log.specs.Tail.{BeginBelow, MeetsTail}

stand_front : (at : ℕ) (xs ys : List Block) → StandFrom at (xs ++ ys) → StandFrom at xs
stand_front at [] ys stand = tt
stand_front at (b ∷ xs) ys (here, stand) = (here, stand_front (at + b.size) xs ys stand)

module _ (law : Law) (v t : View) (is : IsSerializable law t) (leaves : LeavesLog v t) (earlier : List Block) (before now : Log) (slots : Slots) (steps : List Step) (of_before : IsLogOf v before)
    (of_now : IsLogOf t now) (was : IsLog law.meets before) (is_now : IsLog law.meets now) (tail : MeetsTail law.meets earlier before slots steps) where
  abbrev old : HoldsLog law.meets before slots steps
  old = tail.holds

  held : HoldsLog law.meets now slots steps
  held = held_stays law v t is leaves before now of_before of_now was is_now slots steps old

  at : now.opened.at ≡ before.opened.at
  at = of_now.at ∙ ap (λ (o : Opening). o.tail) leaves.opening ∙ sym of_before.at

  flushed : now.flushed ≡ before.flushed
  flushed = of_now.flushed ∙ leaves.flushed ∙ sym of_before.flushed

  -- the blocks of a log stand from its start on
  stands : (log : Log) (front rest : List Block) → IsLog law.meets log → log.gathered ≡ front ++ rest → StandFrom log.opened.at front
  stands log front rest log_is split = stand_front log.opened.at front rest (subst (StandFrom log.opened.at) split (chain_stands law.meets _ log.gathered log_is.chain))

  fronts : held.front ≡ old.front
  fronts =
      one_list law t is t.opening.run now.opened.at held.front old.front (stands now held.front held.rest is_now held.split)
      (subst (λ (n : ℕ). StandFrom n old.front) (sym at) (stands before old.front old.rest was old.split))
      (λ b m. of_now.blocks b (subst (λ (bs : List Block). b ∈ bs) (sym held.split) (∈-before held.front held.rest b m)))
      (λ b m. subst (λ (n : ℕ). IsBlockOf t n b) (ap (λ (o : Opening). o.run) (sym leaves.opening))
      (stays_block v t v.opening.run b leaves.opening leaves.over (of_before.blocks b (subst (λ (bs : List Block). b ∈ bs) (sym old.split) (∈-before old.front old.rest b m)))))
      (sym (place_is (state_at now []) held.front) ∙ held.to ∙ flushed ∙ sym old.to ∙ place_is (state_at before []) old.front ∙ ap (λ (n : ℕ). place_behind n old.front) (sym at))

  same : (held.pair ≡ old.pair) × (held.there.blocks ≡ old.there.blocks)
  same = same_recovery law.meets (same_log_list stored_length-le stored_whole law.meets) (contents steps) held.pair old.pair held.there.blocks old.there.blocks
      held.there.recovers old.there.recovers

  pub met_stays : MeetsTail law.meets earlier now slots steps
  met_stays = record {
    early = subst (λ (n : ℕ). BeginBelow n earlier) (sym at) tail.early;
    holds = held;
    passed = tail.passed;
    split = ap (λ (bs : List Block). earlier ++ bs) fronts ∙ tail.split ∙ ap (λ (bs : List Block). tail.passed ++ bs) (sym same.1);
    low = subst (λ (p : Pair). BeginBelow (base p).at tail.passed) (sym same.0) tail.low;
  }
