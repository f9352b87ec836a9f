-- Blocks of a disk's log that were put to a sink.
use Rattle.std.specs.Prelude.{◌≡◌, ℕ, ◌+◌, ◌<◌, ◌≤◌, ◌⊎◌, List, [], ◌∷◌, Option, IfSome}
use Rattle.std.specs.List.{flat_map}
use Rattle.erm_bytes.specs.Bytes.{AreWords, bytes_of}
use Rattle.erm_block.specs.declared.block.Block.{Block}
use Rattle.erm_block.specs.Block.{IsBlock}
use Rattle.erm_block.specs.LogList.{IsChain}
use Rattle.erm_block.specs.Spelling.{spelling}
use Rattle.erm_ckpt.specs.Recovered.{end_at, state_behind}
use Rattle.erm_outside.specs.Disk.{Step, contents}
use Rattle.erm_outside.specs.Faults.{Rose}
use Rattle.erm_outside.specs.Sink.{Puts, PutsFront}
use Rattle.erm_replica.specs.declared.item.LogPlace.{LogPlace}
use Rattle.erm_ship.specs.Leads.{Any, LeadTo, state_at}
use Rattle.erm_ship.specs.declared.stop.ShipStop.{ShipStop}
use Rattle.erm_ship.specs.declared.stop.ShipStop.TheVariants as stop

-- blocks that may stand one after another, from a place behind a run on
abbrev pub AreBlocks : ℕ → ℕ → List Block → Type 0
AreBlocks at run [] = Unit {0}
AreBlocks at run (block ∷ blocks) = IsBlock block at run × AreBlocks (at + block.size) block.run blocks

-- the bytes of blocks
abbrev pub blocks_text : List Block → List ℕ
blocks_text blocks = bytes_of (flat_map spelling blocks)

-- Blocks lead from a place of the log to another; and they stand in the log of a disk, as far as it tells.
pub record Sent (told : Option (List Step)) (start : LogPlace) (blocks : List Block) (place : LogPlace) : Type 0 where
  pub are : AreBlocks start.at start.run blocks
  pub lead : LeadTo start blocks place
  pub words : AreWords (flat_map spelling blocks)
  pub there : IfSome told (λ steps. IsChain Any (end_at (contents steps) (state_at start)) blocks)

-- some blocks were put, which lead on
pub record SendsOne (told : Option (List Step)) (start : LogPlace) (end : ℕ) (next : LogPlace) (before after : Option (List ℕ)) : Type 0 where
  pub blocks : List Block
  pub sent : Sent told start blocks next
  pub puts : Puts (blocks_text blocks) before after
  pub above : start.at < next.at
  pub high : next.at ≤ end

-- all blocks up to an end were put
pub record SendsAll (told : Option (List Step)) (start : LogPlace) (end : ℕ) (before after : Option (List ℕ)) : Type 0 where
  pub blocks : List Block
  pub place : LogPlace
  pub sent : Sent told start blocks place
  pub puts : Puts (blocks_text blocks) before after
  pub whole : place.at ≡ end

-- no blocks of a disk's log lead from a place to an end, as far as it tells
abbrev pub NoneLead : Option (List Step) → LogPlace → ℕ → Type 0
NoneLead told start end = IfSome told (λ steps. (others : List Block) → IsChain Any (end_at (contents steps) (state_at start)) others
    → (state_behind (state_at start) others).at ≡ end → ⊥)

-- Some blocks were put, and then there was a stop before the end: the sink failed, with some of their bytes put; or the disk failed, or no
-- blocks lead to the end.
pub record StopsIn (told : Option (List Step)) (start : LogPlace) (end : ℕ) (why : ShipStop) (before after : Option (List ℕ)) (disk disk_now sink sink_now : ℕ) : Type 0 where
  pub blocks : List Block
  pub place : LogPlace
  pub sent : Sent told start blocks place
  pub high : place.at ≤ end
  pub how : ((why ≡ stop.SinkFault) × PutsFront (blocks_text blocks) before after × Rose sink sink_now)
      ⊎ ((why ≡ stop.DiskFault) × Puts (blocks_text blocks) before after × (sink_now ≡ sink) × (Rose disk disk_now ⊎ NoneLead told start end))
