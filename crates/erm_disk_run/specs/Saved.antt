-- A checkpoint that was taken right after an opening.
use Rattle.std.specs.Prelude.{◌≡◌, ◌≢◌, ◌+◌, ◌<◌, ℕ, List, [], ◌∷◌, None, Option, Result, Ok, Err, Vec}
use Rattle.std.specs.declared.alloc.Global.{Global}
use Rattle.erm_model.specs.declared.limits.TheConstants.{LAST_RUN, LEAST_BLOCK, STOP}
use Rattle.erm_block.specs.declared.block.Block.{Block}
use Rattle.erm_outside.specs.Disk.{IsSettled, Step, Tells, contents}
use Rattle.erm_ckpt.specs.Recovered.{Pair, Recovers, State, base, best, slots_of}
use Rattle.erm_ckpt.specs.Slots.{removal_end}
use Rattle.erm_ckpt.specs.States.{RecoversTo}
use Rattle.erm_log_run.specs.Saving.{AreRemoved, TookPlace}
use Rattle.erm_node.specs.Sound.{sound_law}
use Rattle.erm_node.specs.TreeMap.{map_of_rows}
use Rattle.erm_recover.specs.Opening.{opened}
use Rattle.erm_recover.specs.Waiting.{SinceSettled}
use Rattle.erm_report.specs.declared.line.Line.{Line}
use Rattle.erm_report.specs.declared.line.Line.TheVariants as line
use Rattle.erm_disk_run.specs.declared.stops.DiskStop.{DiskStop}
use Rattle.erm_disk_run.specs.Crashes.{KeepsCommits}
use Rattle.erm_disk_run.specs.Found.{IsFound}
use Rattle.erm_disk_run.specs.Stops.{CountsStop, StopsFor}

-- Nothing is pending on a disk, and its best slot is of the place behind the block that opened the log, with the map found, to which the disk
-- recovers. The slot took the place of the one that wasn't the best of those found. Of the log's segments all below that of the best one's
-- place are gone, and no other below that of the place found changed.
pub record IsSaved (state : State) (old steps : List Step) : Type 0 where
  pub settled : IsSettled steps
  pub pair : Pair
  pub there : RecoversTo sound_law.meets (opened state) pair (contents steps)
  pub some : best pair ≢ None
  pub at : (base pair).at ≡ state.at + LEAST_BLOCK
  pub run : (base pair).run ≡ state.run + 1
  pub map : map_of_rows (base pair).rows ≡ map_of_rows state.rows
  pub took : (before : Pair) (blocks : List Block) → Recovers sound_law.meets (contents old) before blocks → TookPlace sound_law.meets (state.at + LEAST_BLOCK) (slots_of before) (slots_of pair) old steps
  pub removed : (before : Pair) (blocks : List Block) → Recovers sound_law.meets (contents old) before blocks → AreRemoved (removal_end (slots_of before)) state.at (state.at + LEAST_BLOCK) old steps

-- A log was opened on a disk from which a state was found, below the end of the log and of runs, and a checkpoint taken: these lines tell it. Once nothing is pending of
-- what was done before each image at each moment recovers to the map found, and at the end the checkpoint is there.
pub record WasCheckpointed (before after : Option (List Step)) (state : State) (lines : List Line) : Type 0 where
  pub low : state.at < STOP
  pub run_low : state.run < LAST_RUN
  pub lines_ok : lines ≡ line.Open state.at (state.run + 1) ∷ line.Checkpointed (state.at + LEAST_BLOCK) ∷ line.End ∷ []
  pub keeps : Tells (SinceSettled (KeepsCommits [] state state.at)) before after
  pub saved : Tells (IsSaved state) before after

-- how a checkpoint ends on a disk before and after
abbrev pub EndsCheckpoint : Result (Vec Line Global) DiskStop → Option (List Step) → Option (List Step) → Type 0
EndsCheckpoint (Ok lines) before after = (state : State) × IsFound before state × WasCheckpointed before after state lines.items
EndsCheckpoint (Err stop) before after = StopsFor stop before after

-- the disk's count of faults rose exactly where that is why none was taken
abbrev pub CountsCheckpoint : Result (Vec Line Global) DiskStop → ℕ → ℕ → Type 0
CountsCheckpoint (Ok lines) before now = now ≡ before
CountsCheckpoint (Err stop) before now = CountsStop stop before now
