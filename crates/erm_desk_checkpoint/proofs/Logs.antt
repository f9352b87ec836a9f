-- What is known of a log all blocks of which are flushed.
use Rattle.std.proofs.Common.{◌≡◌, ℕ, ◌+◌, ◌≤◌, List, ◌++◌, length, None, sym, ap, ◌∙◌, subst}
use Rattle.std.proofs.lemmas.List.{length-append}
use Rattle.std.proofs.lemmas.List.Concat.{flat_map-append}
use Rattle.erm_block.specs.declared.block.Block.{Block}
use Rattle.erm_block.specs.Spelling.{spelling}
use Rattle.erm_checkpoint.specs.Taken.{HoldsLog}
use Rattle.erm_checkpoint.proofs.Pinned.{holds_other}
use Rattle.erm_checkpoint.proofs.Taken.{stands_from}
use Rattle.erm_ckpt.specs.declared.slot.Slots.{Slots}
use Rattle.erm_ckpt.specs.Recovered.{State}
use Rattle.erm_desk.specs.Known.{KnowsBlocks, KnowsLog, ended_log, flushed_log, opened_at}
use Rattle.erm_flush.specs.Turns.{start_of}
use Rattle.erm_flush.proofs.Flushes.{same_place}
use Rattle.erm_log_disk.proofs.Chains.{length-words}
use Rattle.erm_model.specs.Rows.{Rows}
use Rattle.erm_model.specs.RowTransaction.{Law}
use Rattle.erm_outside.specs.Disk.{Step}
use Rattle.erm_record.specs.Stored.{stored_length}
use Rattle.erm_rule.specs.declared.view.Book.{Book}
use Rattle.erm_rule.specs.declared.view.Start.{Start}
use Rattle.erm_world.specs.Log.{IsLog, Log, gathered_to, place_behind, words_of}
use Rattle.erm_world.specs.Log as world

-- the state from which a log goes on
abbrev pub state_from : world.Start → State
state_from s = record { at = s.at; run = s.run; rows = s.rows }

pub words_both : (xs ys : List Block) → length (words_of (xs ++ ys)) ≡ length (words_of xs) + length (words_of ys)
words_both xs ys = ap length (flat_map-append spelling xs ys) ∙ length-append (words_of xs) (words_of ys)

-- THE LOG THAT A BOOK KNOWS
module _ (law : Law) (b : Book) (l : Log) (k : KnowsLog law b l) where
  pub known_is : (o : Start) → b.start ≡ o → l ≡ ended_log (flushed_log o k.blocks) l.tail l.pinned
  known_is o start = k.is ∙ ap (λ (x : Start). ended_log (flushed_log x k.blocks) l.tail l.pinned) start

  pub known_blocks : k.blocks ≡ l.gathered
  known_blocks = sym (ap (λ (x : Log). x.gathered) k.is)

  pub known_opened : (o : Start) → b.start ≡ o → l.opened ≡ opened_at o
  known_opened o start = ap (λ (x : Log). x.opened) (known_is o start)

  -- all that was gathered is flushed
  pub known_flushed : l.flushed ≡ gathered_to l
  known_flushed = ap (λ (x : Log). x.flushed) k.is ∙ sym (ap gathered_to k.is)

  pub known_place : (o : Start) → b.start ≡ o → l.flushed ≡ place_behind o.tail l.gathered
  known_place o start = known_flushed ∙ ap (λ (s : world.Start). place_behind s.at l.gathered) (known_opened o start)

  pub known_all : (o : Start) → b.start ≡ o → KnowsBlocks law o b l.gathered
  known_all o start = subst (KnowsBlocks law o b) known_blocks (subst (λ (x : Start). KnowsBlocks law x b k.blocks) start k.knows)

  -- as far as it is flushed
  abbrev pub plain : Log
  plain = record l { tail = gathered_to l; pinned = None }

  pub plain_is : (o : Start) → b.start ≡ o → plain ≡ flushed_log o l.gathered
  plain_is o start =
      ap (λ (x : Log). let y : Log = record x { tail = gathered_to x; pinned = None } in y) (known_is o start) ∙ ap (flushed_log o) known_blocks

  pub plain_held : (o : Start) → b.start ≡ o → (slots : Slots) (steps : List Step) → HoldsLog law.meets l slots steps → HoldsLog law.meets (flushed_log o l.gathered) slots steps
  plain_held o start slots steps held =
      subst (λ (x : Log). HoldsLog law.meets x slots steps) (plain_is o start) (holds_other law.meets l (gathered_to l) None slots steps held)

-- the place behind the words of all that was gathered
module _ (short : (row : List ℕ) → stored_length row ≤ length row) (sound : Rows → Type 0) where
  pub words_end : (l : Log) → IsLog sound l → l.opened.at + length (words_of l.gathered) ≡ gathered_to l
  words_end l is = length-words short sound (start_of l) l.gathered (stands_from sound l is) ∙ sym (same_place (start_of l) l.gathered)
