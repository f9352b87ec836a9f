-- The lines of an audit.
use Rattle.std.specs.Prelude.{◌≡◌, ℕ, ◌≤◌, List, ◌∷◌, ◌++◌, length, map}
use Rattle.std.specs.List.{AllPairs, range_with_len}
use Rattle.std.specs.List.Sorted.{IsPermutation}
use Rattle.erm_model.specs.SerialOrder.{IsSerialOrder, StampsDiffer, rank_of_commit}
use Rattle.erm_model.specs.declared.history.Commit.{Commit}
use Rattle.erm_model.specs.declared.map.Pair.{Pair}
use Rattle.erm_audit.specs.Order.{HasTurnBefore, commits_at}
use Rattle.erm_block.specs.declared.block.Block.{Block}
use Rattle.erm_outside.specs.Disk.{Step, contents}
use Rattle.erm_ckpt.specs.declared.slot.TheConstants.{LOG_START}
use Rattle.erm_ckpt.specs.Recovered.{Pair as Checkpoints, Recovers, State, base, state_behind}
use Rattle.erm_node.specs.Sound.{sound_law}
use Rattle.erm_node.specs.TreeMap.{map_of_rows}
use Rattle.erm_recover.specs.Lists.{commits_of}
use Rattle.erm_report.specs.declared.line.Line.{Line}
use Rattle.erm_report.specs.declared.line.Line.TheVariants as line
use Rattle.erm_inspect.specs.Maps.{ArePairs, map_lines}
use Rattle.erm_inspect.specs.Recoveries.{IsState}

-- the line of a commit that the log has
abbrev pub logged : Commit → Line
logged c = line.LoggedCommit c.seat c.number c.stamp c.succ

-- how many commits there are, then each in an order
abbrev pub order_lines : List Commit → List Commit → List Line
order_lines commits order = line.Order (length commits) ∷ map logged order

-- the lines of an audit, from a place of the log to a state: its commits, in an order, then the map of these pairs
abbrev pub audit_lines : ℕ → State → List Commit → List Commit → List Pair → List Line
audit_lines base state commits order pairs =
    line.Audited base state.at state.run ∷ (order_lines commits order ++ map_lines pairs)

-- The lines tell the commits of a disk as it reads, from the place on where its recovery begins, in the serial order, and the map
-- that it recovers to.
pub record IsAudit (steps : List Step) (lines : List Line) : Type 0 where
  pub pair : Checkpoints
  pub blocks : List Block
  pub recovers : Recovers sound_law.meets (contents steps) pair blocks
  pub order : List Commit
  pub serial : IsSerialOrder rank_of_commit (commits_of blocks) order
  pub pairs : List Pair
  pub are : ArePairs (map_of_rows (state_behind (base pair) blocks).rows) pairs
  pub lines_are : lines ≡ audit_lines (base pair).at (state_behind (base pair) blocks) (commits_of blocks) order pairs

-- The lines of an audit of these commits, from a place of the log to a state. They are in turn: in the serial order, where their
-- stamps differ.
pub record TellsAudit (from : ℕ) (state : State) (commits : List Commit) (lines : List Line) : Type 0 where
  pub places : List ℕ
  pub all : IsPermutation (range_with_len 0 (length commits)) places
  pub in_turn : AllPairs (HasTurnBefore commits) places
  pub serial : StampsDiffer rank_of_commit commits → IsSerialOrder rank_of_commit commits (commits_at commits places)
  pub pairs : List Pair
  pub are : ArePairs (map_of_rows state.rows) pairs
  pub lines_are : lines ≡ audit_lines from state commits (commits_at commits places) pairs

-- the lines are those of some commits and some state, whatever the disk tells
pub record HasAuditForm (lines : List Line) : Type 0 where
  pub from : ℕ
  pub state : State
  pub commits : List Commit
  pub low : LOG_START ≤ from
  pub above : from ≤ state.at
  pub is : IsState state
  pub tells : TellsAudit from state commits lines
