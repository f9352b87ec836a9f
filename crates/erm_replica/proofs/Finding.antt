-- What is answered of what was found.
use Rattle.std.proofs.Common.{◌≡◌, ℕ, ◌+◌, ◌*◌, ◌≤◌, List, length, Option, None, Some, refl, sym, ap, ◌∙◌, arith, subst}
use Rattle.erm_model.specs.Rows.{rows_of}
use Rattle.erm_model.specs.RowTransaction.{SameRows}
use Rattle.erm_block.specs.declared.block.Block.{Block}
use Rattle.erm_block.specs.Block.{IsBlock}
use Rattle.erm_block.specs.Spelling.{spelling}
use Rattle.erm_ckpt.specs.declared.slot.Slot.{Slot}
use Rattle.erm_ckpt.specs.Checkpoint.{Checkpoint, rows_of_checkpoint}
use Rattle.erm_replica.specs.declared.item.Item.TheVariants as item
use Rattle.erm_replica.specs.declared.item.LogPlace.{LogPlace}
use Rattle.erm_replica.specs.Found.{Finds}
use Rattle.erm_replica.specs.Stream.{Part, StandsFirst, announced, first_word, part_words}
use Rattle.erm_replica.specs.Stream.Part.{base, block}

module _ (fits : (log : Option LogPlace) (bytes : List ℕ) (part : Part) → StandsFirst log bytes part
    → (announced log (first_word bytes) ≡ Some (length (part_words part))) × (8 * length (part_words part) ≤ length bytes)) where
  pub finds_base : (log : Option LogPlace) (bytes : List ℕ) (c : Checkpoint) (slot : Slot) (size : ℕ) (rows : List (List ℕ)) → log ≡ None → StandsFirst None bytes (base c)
      → slot ≡ c.slot → size ≡ length (part_words (base c)) → SameRows (rows_of rows) (rows_of_checkpoint c)
      → Finds log bytes rows (record { item = item.Base slot; size = size; log = record { at = slot.stamp; run = slot.run } })
  finds_base log bytes c slot size rows none stands slot_is size_is same = record {
    part = base c;
    there = subst (λ (l : Option LogPlace). StandsFirst l bytes (base c)) (sym none) stands;
    item = ap item.Base slot_is;
    size = size_is;
    behind = ap (λ (s : Slot). let place : LogPlace = record { at = s.stamp; run = s.run } in place) slot_is;
    within = omega (arith, size_is, (fits None bytes (base c) stands).1);
    rows_are = same;
  }

  module _ (spelled : (b : Block) (at run : ℕ) → IsBlock b at run → length (spelling b) ≡ b.size) where
    pub finds_block : (log : Option LogPlace) (at : LogPlace) (bytes : List ℕ) (b : Block) (size more : ℕ) (rows : List (List ℕ)) → log ≡ Some at → StandsFirst (Some at) bytes (block b)
        → size ≡ b.size → more ≡ b.size
        → Finds log bytes rows (record { item = item.Block b; size = size; log = record { at = b.stamp + more; run = b.run } })
    finds_block log at bytes b size more rows some stands size_is more_is =
        let words : length (spelling b) ≡ b.size = spelled b at.at at.run stands.may in
        record {
          part = block b;
          there = subst (λ (l : Option LogPlace). StandsFirst l bytes (block b)) (sym some) stands;
          item = refl;
          size = size_is ∙ sym words;
          behind = ap (λ (n : ℕ). let place : LogPlace = record { at = b.stamp + n; run = b.run } in place) more_is;
          within = omega (arith, size_is, words, (fits (Some at) bytes (block b) stands).1);
          rows_are = tt;
        }
