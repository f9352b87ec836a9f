-- Which blocks recovery meets on a disk that holds a log: the last of those that were flushed.
use Rattle.std.specs.Prelude.{◌≡◌, ◌<◌, ◌≤◌, ◌++◌, ℕ, List, []}
use Rattle.erm_block.specs.declared.block.Block.{Block}
use Rattle.erm_model.specs.Member.{◌∈◌}
use Rattle.erm_model.specs.Rows.{Rows}
use Rattle.erm_outside.specs.Disk.{Step}
use Rattle.erm_ckpt.specs.declared.slot.Slots.{Slots}
use Rattle.erm_ckpt.specs.Recovered.{base}
use Rattle.erm_checkpoint.specs.Taken.{HoldsLog}
use Rattle.erm_world.specs.Log.{Log, gathered_to, place_behind}

-- blocks begin below a place; at or above it
abbrev pub BeginBelow : ℕ → List Block → Type 0
BeginBelow place blocks = (block : Block) → block ∈ blocks → block.stamp < place

abbrev pub BeginFrom : ℕ → List Block → Type 0
BeginFrom place blocks = (block : Block) → block ∈ blocks → place ≤ block.stamp

-- A disk holds a log that was opened behind some earlier blocks. Of these and of the log's blocks that are flushed recovery meets the last
-- ones: all but some below the place where it begins.
pub record MeetsTail (sound : Rows → Type 0) (earlier : List Block) (log : Log) (slots : Slots) (steps : List Step) : Type 0 where
  pub early : BeginBelow log.opened.at earlier
  pub holds : HoldsLog sound log slots steps
  pub passed : List Block
  pub split : earlier ++ holds.front ≡ passed ++ holds.there.blocks
  pub low : BeginBelow (base holds.pair).at passed

-- a log of whose blocks no more than a front is gathered, all of which is flushed
abbrev pub log_to : Log → List Block → Log
log_to log front = record log { tail = place_behind log.opened.at front; gathered = front; flushed = place_behind log.opened.at front }

-- The blocks that recovery meets from a place on are, behind blocks below a log's start, just those of the log that are flushed and stand at
-- or above that place.
pub record MeetsRun (log : Log) (from : ℕ) (met : List Block) : Type 0 where
  pub older : List Block
  pub passed : List Block
  pub both : List Block
  pub rest : List Block
  pub met_is : met ≡ older ++ both
  pub gathered : log.gathered ≡ (passed ++ both) ++ rest
  pub to : place_behind log.opened.at (passed ++ both) ≡ log.flushed
  pub all : log.flushed ≡ gathered_to log → rest ≡ []
  pub early : BeginBelow log.opened.at older
  pub low : BeginBelow from passed
  pub own : BeginFrom log.opened.at both
  pub above : BeginFrom from both
