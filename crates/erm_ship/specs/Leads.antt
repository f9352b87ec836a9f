-- How far blocks lead in words.
use Rattle.std.specs.Prelude.{◌≡◌, ℕ, ◌+◌, ◌-◌, ◌<◌, ◌≤◌, List, length}
use Rattle.erm_model.specs.Rows.{Rows}
use Rattle.erm_block.specs.declared.block.Block.{Block}
use Rattle.erm_block.specs.LogList.{IsChain}
use Rattle.erm_block.specs.Spelling.{StandsAt}
use Rattle.erm_ckpt.specs.Checkpoint.{zero_rows}
use Rattle.erm_ckpt.specs.Recovered.{State, state_behind}
use Rattle.erm_recover.specs.Lists.{end_in}
use Rattle.erm_replica.specs.declared.item.LogPlace.{LogPlace}

-- whatever rows are there
abbrev pub Any : Rows → Type 0
Any rows = Unit {0}

-- a place of the log, as a state with no rows
abbrev pub state_at : LogPlace → State
state_at place = record { at = place.at; run = place.run; rows = zero_rows }

-- blocks lead from a place of the log to another
pub record LeadTo (start : LogPlace) (blocks : List Block) (place : LogPlace) : Type 0 where
  pub at : (state_behind (state_at start) blocks).at ≡ place.at
  pub run : (state_behind (state_at start) blocks).run ≡ place.run

-- the block at the front of words, which are the log's from a place on, leads to the next one, which isn't behind an end
pub record IsNext (words : List ℕ) (place : LogPlace) (end : ℕ) (next : LogPlace) : Type 0 where
  pub block : Block
  pub stands : StandsAt words block place.at place.run
  pub at : next.at ≡ place.at + block.size
  pub run : next.run ≡ block.run
  pub above : place.at < next.at
  pub there : next.at ≤ place.at + length words
  pub high : next.at ≤ end

-- blocks at the front of words lead from a place to another, which isn't behind an end
pub record Going (words : List ℕ) (start : LogPlace) (end : ℕ) (place : LogPlace) : Type 0 where
  pub blocks : List Block
  pub chain : IsChain Any (end_in words (state_at start)) blocks
  pub lead : LeadTo start blocks place
  pub low : start.at ≤ place.at
  pub there : place.at ≤ start.at + length words
  pub high : place.at ≤ end

-- and where they lead nowhere no block stands there that isn't behind the end
pub record Leads (words : List ℕ) (start : LogPlace) (end : ℕ) (place : LogPlace) : Type 0 where
  pub going : Going words start end place
  pub none : place.at ≡ start.at → (block : Block) → StandsAt words block start.at start.run → end < start.at + block.size
