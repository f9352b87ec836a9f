-- The laws by which programs end on a disk as they do.
use Rattle.std.specs.Prelude.{◌≡◌, ℕ, ◌≤◌, List, replicate}
use Rattle.erm_block.specs.declared.block.Block.{Block}
use Rattle.erm_client_disk.specs.Laws.{EndedClientsAreDone, EndedClientsOutlive, OpeningsOutlive}
use Rattle.erm_closed_log.specs.Closed.{HasLog, WasClosed}
use Rattle.erm_core_alone.specs.Alone.{ClaimsStandAlone}
use Rattle.erm_core_shown.specs.Shown.{HasOnly, shown_of}
use Rattle.erm_core_view.specs.Views.{IsQuiet}
use Rattle.erm_engine.specs.Ended.{world_of}
use Rattle.erm_lines_at_once.specs.Ends.{IsEnd}
use Rattle.erm_machine.specs.Core.{Core}
use Rattle.erm_model.specs.declared.limits.TheConstants.{SESSIONS, TABLES}
use Rattle.erm_model.specs.declared.TheConstants.{ROW_WORDS}
use Rattle.erm_model.specs.Rows.{Rows}
use Rattle.erm_model.specs.RowTransaction.{SameRows}
use Rattle.erm_node.specs.Sound.{IsSound, reached, sound_law}
use Rattle.erm_node.specs.TreeMap.{map_of_rows}
use Rattle.erm_rule.specs.declared.view.Book.{Book}
use Rattle.erm_rule.specs.declared.view.Start.{Start}
use Rattle.erm_sound.specs.Kept.{SoundUnder}
use Rattle.erm_told_crash.specs.Laws.{StandApart}

-- All of them: what clients leave on the disk, what is so of the state in which their table was closed, and of the rows found.
pub record EndLaws : Type 0 where
  pub outlive : EndedClientsOutlive
  pub done : EndedClientsAreDone
  pub may_end : (sessions : ℕ) (c : Core) → SoundUnder sound_law c → ClaimsStandAlone c → HasOnly sessions c → IsEnd (shown_of sessions c)
  pub logs : (o : Start) (b : Book) (blocks tried : List Block) (core : Core) → WasClosed sound_law o b blocks tried core → HasLog sound_law o blocks tried core
  pub apart : (core : Core) → SoundUnder sound_law core → IsQuiet SESSIONS core → StandApart (world_of core)
  pub unrun : OpeningsOutlive
  pub maps : (a b : Rows) → SameRows a b → IsSound a → map_of_rows a ≡ map_of_rows b
  pub zeros : (rows : Rows) (x : ℕ) → IsSound rows → TABLES ≤ x → rows x ≡ replicate ROW_WORDS 0 → reached rows x ≡ 0
