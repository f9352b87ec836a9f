-- The lines of a recovery.
use Rattle.std.specs.Prelude.{◌≡◌, ◌<◌, ◌≤◌, List, ◌∷◌}
use Rattle.erm_model.specs.declared.limits.TheConstants.{LOG_END}
use Rattle.erm_model.specs.declared.map.Pair.{Pair}
use Rattle.erm_block.specs.declared.block.Block.{Block}
use Rattle.erm_block.specs.declared.block.TheConstants.{RUN_END}
use Rattle.erm_outside.specs.Disk.{Step, contents}
use Rattle.erm_ckpt.specs.declared.slot.TheConstants.{LOG_START}
use Rattle.erm_ckpt.specs.Recovered.{Pair as Checkpoints, Recovers, State, base, state_behind}
use Rattle.erm_node.specs.Sound.{IsSound, sound_law}
use Rattle.erm_node.specs.TreeMap.{map_of_rows}
use Rattle.erm_report.specs.declared.line.Line.{Line}
use Rattle.erm_report.specs.declared.line.Line.TheVariants as line
use Rattle.erm_inspect.specs.Maps.{ArePairs, map_lines}

-- the lines of a state of the log: its place and run, then its map
pub record TellsRecovery (state : State) (lines : List Line) : Type 0 where
  pub pairs : List Pair
  pub are : ArePairs (map_of_rows state.rows) pairs
  pub lines_are : lines ≡ line.Recovered state.at state.run ∷ map_lines pairs

-- The lines tell what a disk as it reads recovers to. It recovers to one state alone.
pub record IsRecovery (steps : List Step) (lines : List Line) : Type 0 where
  pub pair : Checkpoints
  pub blocks : List Block
  pub recovers : Recovers sound_law.meets (contents steps) pair blocks
  pub tells : TellsRecovery (state_behind (base pair) blocks) lines

-- a state that there may be in a log: its place, run and rows
pub record IsState (state : State) : Type 0 where
  pub low : LOG_START ≤ state.at
  pub end : state.at ≤ LOG_END
  pub run : state.run < RUN_END
  pub are_sound : IsSound state.rows

-- the lines are those of some state, whatever the disk tells
pub record HasRecoveryForm (lines : List Line) : Type 0 where
  pub state : State
  pub is : IsState state
  pub tells : TellsRecovery state lines
