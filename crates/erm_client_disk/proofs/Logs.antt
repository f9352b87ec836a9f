-- The log of the world in which all sessions ended, as the desk's book knows it.
use Rattle.std.proofs.Common.{◌≡◌, ℕ, List, ◌++◌}
use Rattle.erm_block.specs.declared.block.Block.{Block}
use Rattle.erm_closed_log.specs.Closed.{HasLog, WasClosed}
use Rattle.erm_core_view.specs.Views.{IsQuiet}
use Rattle.erm_desk.specs.Known.{IsFlushedTo, KnowsBlocks}
use Rattle.erm_disk_at_once.specs.Desks.{HasLogged}
use Rattle.erm_engine.specs.Ended.{HasClosed, world_of}
use Rattle.erm_machine.specs.Core.{Core}
use Rattle.erm_model.specs.declared.limits.TheConstants.{SESSIONS}
use Rattle.erm_node.specs.Sound.{sound_law}
use Rattle.erm_rule.specs.declared.view.Book.{Book}
use Rattle.erm_rule.specs.declared.view.Opening.{Opening}
use Rattle.erm_rule.specs.declared.view.Start.{Start}
use Rattle.erm_rule.specs.Openings.{start_of}
use Rattle.erm_sound.specs.Kept.{SoundUnder}
use Rattle.erm_told_crash.specs.Laws.{StandApart}
use Rattle.erm_world.specs.Log.{place_behind}

-- what the crate below says of a table that was closed
abbrev pub HaveLogs : Type 0
HaveLogs = (o : Start) (b : Book) (blocks tried : List Block) (core : Core) → WasClosed sound_law o b blocks tried core → HasLog sound_law o blocks tried core

abbrev pub RangesApart : Type 0
RangesApart = (core : Core) → SoundUnder sound_law core → IsQuiet SESSIONS core → StandApart (world_of core)

-- the state in which a table was closed is flushed as far as its desk's book tells, which knows the blocks
pub leaves_log : HaveLogs → RangesApart → (o : Opening) (book : Book) (tail : ℕ) (core : Core) (blocks tried : List Block) → HasClosed sound_law o book tail core
    → KnowsBlocks sound_law (start_of o) book (blocks ++ tried) → IsFlushedTo book (place_behind (start_of o).tail blocks)
    → HasLogged (start_of o) (blocks ++ tried) (world_of core) × ((world_of core).flushed ≡ place_behind (start_of o).tail blocks)
leaves_log have apart o book tail core blocks tried closed knows flushed =
    let synced = closed.flushed (place_behind (start_of o).tail blocks) flushed in
    let has = have (start_of o) book blocks tried core (record { under = closed.under; quiet = closed.quiet; was = closed.flusher; knows = knows; flushed = synced }) in (
      record { log = has.log; is = has.is; of_view = has.of_view; gathered = has.gathered; opened = has.opened; apart = apart core closed.under closed.quiet },
      synced,
    )
