-- Opening a log: an Open block at the place recovered, of the next run.
use Rattle.std.specs.Prelude.{◌≡◌, ℕ, ◌+◌, ◌⊎◌, List, [], ◌++◌, Option, Result, Err}
use Rattle.erm_model.specs.Rows.{Rows}
use Rattle.erm_model.specs.declared.limits.TheConstants.{LEAST_BLOCK}
use Rattle.erm_block.specs.declared.block.Block.{Block}
use Rattle.erm_block.specs.declared.block.Kind.TheVariants.{Open}
use Rattle.erm_block.specs.Spelling.{spelling}
use Rattle.erm_outside.specs.Disk.{EachImage, Image, Step, Tells, contents}
use Rattle.erm_log_words.specs.Tears.{IsFresh, ShowsBlock}
use Rattle.erm_log_disk.specs.Writes.{AllWriteWords}
use Rattle.erm_ckpt.specs.Recovered.{Pair, State}
use Rattle.erm_ckpt.specs.States.{HoldsAll, RecoversTo}
use Rattle.erm_recover.specs.declared.open.OpenStop.{OpenStop}
use Rattle.erm_recover.specs.declared.open.OpenStop.TheVariants.{LogEnd, RunsEnd}
use Rattle.erm_recover.specs.declared.recovered.Recovered.{Recovered}
use Rattle.erm_recover.specs.Waiting.{MaySettle, Settles}

-- the Open block that the next run writes at this place, behind a block of this run
abbrev pub open_block : ℕ → ℕ → Block
open_block at run = record {
  kind = Open;
  run = run + 1;
  stamp = at;
  succ = 0;
  seat = 0;
  number = 0;
  n = 0;
  size = LEAST_BLOCK;
  rows = record { items = [] };
}

-- the state behind it
abbrev pub opened : State → State
opened state = record { at = state.at + LEAST_BLOCK; run = state.run + 1; rows = state.rows }

-- An image recovers to the state before an opening, or to the one behind it, where it shows of the Open block that was written
-- the block or none that reads.
abbrev pub RecoversEither : (Rows → Type 0) → State → Pair → Image → Type 0
RecoversEither sound state pair image =
    ShowsBlock image state.at state.run (open_block state.at state.run) → RecoversTo sound state pair image ⊎ RecoversTo sound (opened state) pair image

-- an Open block was written at its place, and nothing else was done but to wait; at each moment each image that a crash may leave
-- recovers to the rows recovered before, in their run or the next
pub record Opens (sound : Rows → Type 0) (state : State) (pair : Pair) (old new : List Step) : Type 0 where
  pub more : List Step
  pub steps : new ≡ more ++ old
  pub writes : AllWriteWords state.at (spelling (open_block state.at state.run)) more
  pub images : EachImage (RecoversEither sound state pair) old more

-- It was waited for what was pending and no more was done, or it was waited for all of it, and then such a block was written; as far as the
-- disk tells.
abbrev pub OpensTold : (Rows → Type 0) → State → Pair → Option (List Step) → Option (List Step) → Type 0
OpensTold sound state pair before after = Tells (MaySettle (Opens sound state pair)) before after

-- why a log wasn't opened, but for a fault: its last run, or its next free word, is told, and nothing was done
abbrev pub StopsAs : Result ℕ OpenStop → Recovered → Option (List Step) → Option (List Step) → Type 0
StopsAs (Err (RunsEnd run)) recovered before after = (run ≡ recovered.run) × (after ≡ before)
StopsAs (Err (LogEnd tail)) recovered before after = (tail ≡ recovered.stamp) × (after ≡ before)
StopsAs result recovered before after = Unit {0}

-- an Open block was written so, and the disk holds the state behind it
pub record IsOpened (sound : Rows → Type 0) (state : State) (pair : Pair) (old new : List Step) : Type 0 where
  pub opens : Opens sound state pair old new
  pub holds : HoldsAll sound (opened state) pair new

-- it was waited for all that was pending, and then the log was opened, as far as the disk tells
abbrev pub HoldsOpened : (Rows → Type 0) → State → Pair → Option (List Step) → Option (List Step) → Type 0
HoldsOpened sound state pair before after = Tells (Settles (IsOpened sound state pair)) before after
