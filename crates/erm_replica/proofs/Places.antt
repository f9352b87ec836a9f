-- How far a part leads.
use Rattle.std.proofs.Common.{◌≡◌, ℕ, ◌+◌, ◌≤◌, length, Option, None, Some, arith, ap}
use Rattle.erm_block.specs.declared.block.Block.{Block}
use Rattle.erm_block.specs.Block.{IsBlock}
use Rattle.erm_block.specs.Spelling.{spelling}
use Rattle.erm_ckpt.specs.Checkpoint.{Checkpoint, slot_words}
use Rattle.erm_replica.specs.declared.item.LogPlace.{LogPlace}
use Rattle.erm_replica.specs.Ready.{last_place, most_words}
use Rattle.erm_replica.specs.Stream.{IsBase, MayCome, Part, log_behind, part_words}
use Rattle.erm_replica.specs.Stream.Part.{base, block}
use Rattle.std.proofs.Common.{inl, inr}

base_end : (c : Checkpoint) → IsBase c → c.slot.stamp ≤ 2305843009213693952
base_end c is = elim is.is [
  | inl start ↦ omega (arith, ap (λ (d : Checkpoint). d.slot.stamp) start)
  | inr checkpoint ↦ checkpoint.slot.stamp_high
]

module _ (few : (c : Checkpoint) → IsBase c → length (slot_words c) ≤ 278534) (size : (b : Block) (at run : ℕ) → IsBlock b at run → length (spelling b) ≡ b.size) where
  pub goes_to : (log : Option LogPlace) (part : Part) (place : ℕ) → MayCome log part → place ≤ most_words log → last_place log ≤ 2305843009213693952
      → (place + length (part_words part) ≤ most_words (Some (log_behind part))) × (last_place (Some (log_behind part)) ≤ 2305843009213693952)
  goes_to None (base c) place may near end = (omega (arith, near, few c may), base_end c may)
  goes_to None (block b) place may near end = absurd may
  goes_to (Some log) (base c) place may near end = absurd may
  goes_to (Some log) (block b) place may near end =
      let is : IsBlock b log.at log.run = may in (
        omega (arith, near, size b log.at log.run may, is.stamp),
        omega (arith, is.end, is.stamp),
      )
