-- What lies behind the end of a log list.
use Rattle.std.specs.Prelude.{◌≡◌, ℕ, ◌+◌, ◌<◌, List, [], length, take, drop}
use Rattle.erm_block.specs.declared.block.Block.{Block}
use Rattle.erm_block.specs.Spelling.{StandsAt}
use Rattle.erm_log_words.specs.Words.{log_words}
use Rattle.erm_outside.specs.Disk.{Image}
use Rattle.erm_recover.specs.declared.list.TheConstants.{WINDOW_WORDS}
use Rattle.erm_log.specs.declared.behind.Behind.{Behind}
use Rattle.erm_log.specs.declared.behind.Behind.TheVariants.{Nothing, Noise, Stands}

-- the words of the log behind a place that are looked at: those up to the first that isn't there, and at most as many as a segment has
abbrev pub words_behind : Image → ℕ → List ℕ
words_behind image end = take WINDOW_WORDS (log_words image end)

-- a block of this run reads so many words behind a place, whatever stands before it
pub record ReadsBehind (words : List ℕ) (end skipped run : ℕ) : Type 0 where
  pub block : Block
  pub before : ℕ
  pub stands : StandsAt (drop skipped words) block (end + skipped) before
  pub run_is : run ≡ block.run

-- this is the first place behind an end where a block reads
pub record IsFirstBehind (words : List ℕ) (end skipped run : ℕ) : Type 0 where
  pub reads : ReadsBehind words end skipped run
  pub first : (less other : ℕ) → less < skipped → ReadsBehind words end less other → ⊥

-- What lies behind a place: no word; words in which no block reads; or a block that reads, the first one.
abbrev pub LiesBehind : List ℕ → ℕ → Behind → Type 0
LiesBehind words end Nothing = words ≡ []
LiesBehind words end (Noise count) = (0 < count) × (count ≡ length words) × ((skipped run : ℕ) → ReadsBehind words end skipped run → ⊥)
LiesBehind words end (Stands at run) = (skipped : ℕ) × (at ≡ end + skipped) × IsFirstBehind words end skipped run
