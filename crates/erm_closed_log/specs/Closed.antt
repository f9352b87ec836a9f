-- The log of a table that was closed.
use Rattle.std.specs.Prelude.{◌≡◌, List, ◌++◌}
use Rattle.erm_block.specs.declared.block.Block.{Block}
use Rattle.erm_core_shown.specs.Shown.{shown_of}
use Rattle.erm_core_view.specs.Views.{IsQuiet}
use Rattle.erm_desk.specs.Known.{KnowsBlocks, opened_at}
use Rattle.erm_machine.specs.Core.{Core}
use Rattle.erm_model.specs.declared.limits.TheConstants.{SESSIONS}
use Rattle.erm_model.specs.RowTransaction.{Law}
use Rattle.erm_own_view.specs.Own.{WasOf}
use Rattle.erm_rule.specs.declared.view.Book.{Book}
use Rattle.erm_rule.specs.declared.view.Start.{Start}
use Rattle.erm_sound.specs.Kept.{SoundUnder}
use Rattle.erm_world.specs.Log.{IsLog, Log, gathered_to, place_behind}
use Rattle.erm_world.specs.Whole.{IsLogOf}

-- A table that was made so was closed in this state: a sound one, whose rows keep the law, in which each session is between two calls. It is one
-- of the book, or a later one. The log is flushed up to the end of these blocks, which the book knows, with those that were tried behind them.
pub record WasClosed (law : Law) (o : Start) (b : Book) (blocks tried : List Block) (core : Core) : Type 0 where
  pub under : SoundUnder law core
  pub quiet : IsQuiet SESSIONS core
  pub was : WasOf b core
  pub knows : KnowsBlocks law o b (blocks ++ tried)
  pub flushed : core.shared.flushed ≡ place_behind o.tail blocks

-- What the state shows has a log of the law, which goes on where the table was opened. Its blocks are all of these; it is flushed as far as the state is,
-- which is as far as the first of them, and gathered to the end of those that were tried.
pub record HasLog (law : Law) (o : Start) (blocks tried : List Block) (core : Core) : Type 0 where
  pub log : Log
  pub is : IsLog law.meets log
  pub of_view : IsLogOf (shown_of SESSIONS core) log
  pub gathered : log.gathered ≡ blocks ++ tried
  pub opened : log.opened ≡ opened_at o
  pub flushed : log.flushed ≡ core.shared.flushed
  pub synced : log.flushed ≡ place_behind o.tail blocks
  pub whole : gathered_to log ≡ place_behind o.tail (blocks ++ tried)
