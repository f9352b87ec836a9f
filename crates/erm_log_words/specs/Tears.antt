-- What an image shows at the place of a block or slot that was written and not synced yet, and where it shows none.
use Rattle.std.specs.Prelude.{◌≡◌, ℕ, ◌+◌, ◌<◌, ◌≤◌, ◌⊎◌, ◌↔◌, List, [], ◌∷◌, ◌++◌, Option, IfSome}
use Rattle.erm_block.specs.declared.block.Block.{Block}
use Rattle.erm_block.specs.Spelling.{Spells, StandsAt}
use Rattle.erm_outside.specs.declared.disk.File.TheVariants.{Slot0, Slot1}
use Rattle.erm_outside.specs.Disk.{Image}
use Rattle.erm_log_words.specs.Words.{log_words}

-- no block of this run or a later one reads at a place
abbrev pub Unread : ℕ → Image → ℕ → Type 0
Unread run image at = (block : Block) (run_before : ℕ) → run ≤ block.run → StandsAt (log_words image at) block at run_before → ⊥

-- no block of this run or a later one reads at this place or behind it
abbrev pub IsFresh : ℕ → Image → ℕ → Type 0
IsFresh run image from = (at : ℕ) → from ≤ at → Unread run image at

-- Where a block was written behind a block of this run, an image shows the block, or bytes at which no block that may
-- follow reads: none of this run or a later one. And within it no block of its run or a later one reads.
pub record ShowsBlock (image : Image) (at run : ℕ) (block : Block) : Type 0 where
  pub place : Spells (log_words image at) block ⊎ Unread run image at
  pub within : (p : ℕ) → at < p → p < at + block.size → Unread block.run image p

-- it does so for each of these blocks, which were written one after another from a place on, behind a block of this run
abbrev pub ShowsBlocks : Image → ℕ → ℕ → List Block → Type 0
ShowsBlocks image at run [] = Unit {0}
ShowsBlocks image at run (block ∷ blocks) = ShowsBlock image at run block × ShowsBlocks image (at + block.size) block.run blocks

-- a file begins with these bytes
abbrev pub BeginsWith : List ℕ → List ℕ → Type 0
BeginsWith file bytes = (rest : List ℕ) × (file ≡ bytes ++ rest)

-- a file begins with these bytes, which are a slot that checks
abbrev pub HasSlot : (List ℕ → Type 0) → List ℕ → List ℕ → Type 0
HasSlot IsSlot file slot = IsSlot slot × BeginsWith file slot

-- Where a slot was written to a file, an image shows the slot, or such slots as stood there before, or none that checks.
abbrev pub ShowsSlot : (List ℕ → Type 0) → List ℕ → List ℕ → List ℕ → Type 0
ShowsSlot IsSlot before written after =
    BeginsWith after written ⊎ (((slot : List ℕ) → HasSlot IsSlot after slot ↔ HasSlot IsSlot before slot) ⊎ ((slot : List ℕ) → HasSlot IsSlot after slot → ⊥))

-- what was written since it was synced last: blocks one after another from a place of the log on, behind a block of this run,
-- and in each slot's file a slot, if one was
pub record Pending : Type 0 where
  pub at : ℕ
  pub run : ℕ
  pub blocks : List Block
  pub slot0 : Option (List ℕ)
  pub slot1 : Option (List ℕ)

-- An image shows each block and each slot that was written since the last sync, or what stood there before, or bytes at which
-- none reads and none checks. Which bytes are a slot that checks is a parameter.
pub record TornShows (IsSlot : List ℕ → Type 0) (before image : Image) (pending : Pending) : Type 0 where
  pub blocks : ShowsBlocks image pending.at pending.run pending.blocks
  pub slot0 : IfSome pending.slot0 (λ slot. ShowsSlot IsSlot (before Slot0) slot (image Slot0))
  pub slot1 : IfSome pending.slot1 (λ slot. ShowsSlot IsSlot (before Slot1) slot (image Slot1))
