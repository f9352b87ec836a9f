-- Blocks in the log of an image.
use Rattle.std.specs.Prelude.{List, [], ◌∷◌}
use Rattle.erm_model.specs.Rows.{Rows}
use Rattle.erm_block.specs.declared.block.Block.{Block}
use Rattle.erm_block.specs.Block.{IsBlock}
use Rattle.erm_block.specs.LogList.{End, end_after, rows_after_block}
use Rattle.erm_log_words.specs.Words.{log_words}
use Rattle.erm_outside.specs.Disk.{Image}

-- the log of an image, from where blocks end on
abbrev pub log_from : Image → End → End
log_from image end = record { words = log_words image end.at; at = end.at; run = end.run; rows = end.rows }

-- these blocks may stand one after another from an end on: each is of the grammar at its place, and the rows after it are sound
abbrev pub MayStand : (Rows → Type 0) → End → List Block → Type 0
MayStand sound end [] = Unit {0}
MayStand sound end (block ∷ blocks) =
    IsBlock block end.at end.run × sound (rows_after_block block end.rows) × MayStand sound (end_after block end) blocks
