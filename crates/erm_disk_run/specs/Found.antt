-- What is found on a disk, and what a report starts from that goes on from there.
use Rattle.std.specs.Prelude.{◌≡◌, ◌+◌, ◌<◌, ◌≤◌, List, Option, IfSome}
use Rattle.erm_model.specs.declared.limits.TheConstants.{LOG_END}
use Rattle.erm_block.specs.declared.block.Block.{Block}
use Rattle.erm_block.specs.declared.block.TheConstants.{RUN_END}
use Rattle.erm_outside.specs.Disk.{Step, contents}
use Rattle.erm_ckpt.specs.declared.slot.TheConstants.{LOG_START}
use Rattle.erm_ckpt.specs.Recovered.{Pair, RecoversAt, Recovers, State, base, state_behind}
use Rattle.erm_ckpt.specs.States.{SameState}
use Rattle.erm_log_words.specs.Kept.{MayOpen}
use Rattle.erm_node.specs.Sound.{IsSound, sound_law}
use Rattle.erm_node.specs.TreeMap.{map_of_rows}
use Rattle.erm_recover.specs.Waiting.{IsSettledBeyond}
use Rattle.erm_good_report.specs.Opening.{Opening}
use Rattle.erm_lines.specs.Executions.{count_rows}
use Rattle.erm_start.specs.Recovered.{IsFirstObject}

-- a disk as it reads recovers to a state, from the best of its checkpoints on
pub record ReadsAs (state : State) (steps : List Step) : Type 0 where
  pub pair : Pair
  pub blocks : List Block
  pub recovers : Recovers sound_law.meets (contents steps) pair blocks
  pub is : SameState (state_behind (base pair) blocks) state

-- What is found on a disk: a state that there may be in a log, whose rows are sound, to which the disk recovers, as far as it tells.
pub record IsFound (disk : Option (List Step)) (state : State) : Type 0 where
  pub low : LOG_START ≤ state.at
  pub end : state.at ≤ LOG_END
  pub run : state.run < RUN_END
  pub are_sound : IsSound state.rows
  pub told : IfSome disk (ReadsAs state)

-- A disk may be opened: behind the place that it recovers to as it reads no block of a later run reads. What was done to it may be pending
-- still, as a stop leaves it, but only of what an opening waits for: both slots, the segments from the one where recovery begins up to the
-- one behind that of the place, and removals of others.
pub record IsKept (steps : List Step) : Type 0 where
  pub beyond : (pair : Pair) (blocks : List Block) → Recovers sound_law.meets (contents steps) pair blocks
      → IsSettledBeyond (base pair).at (state_behind (base pair) blocks).at steps
  pub opens : MayOpen (RecoversAt sound_law.meets) (contents steps)

-- a report starts from the map of a state's rows, with the log's block that opens the next run at the state's place
pub record StartsFrom (state : State) (opening : Opening) : Type 0 where
  pub map : opening.map ≡ map_of_rows state.rows
  pub stamp : opening.stamp ≡ state.at
  pub run : opening.run ≡ state.run + 1
  pub rows : opening.rows ≡ count_rows state.rows
  pub first : IsFirstObject state.rows opening.first
