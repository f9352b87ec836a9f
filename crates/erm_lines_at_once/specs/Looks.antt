-- What the looks of a safe snapshot are, where sessions run at once: it reads the newest rows below its begin stamp of all that commit, its own part
-- stays as it is, and it is never refused.
use Rattle.std.specs.Prelude.{◌≡◌, ℕ, Some}
use Rattle.erm_model.specs.declared.operation.Op.{Op}
use Rattle.erm_model.specs.declared.operation.Reply.{Reply}
use Rattle.erm_model.specs.Rows.{Rows}
use Rattle.erm_model.specs.Run.{IsReplyOn}
use Rattle.erm_node.specs.Sound.{IsSound}
use Rattle.erm_node.specs.TreeMap.{map_of_rows}
use Rattle.erm_script.specs.declared.script.Command.{Command}
use Rattle.erm_world.specs.World.{View, work_at}
use Rattle.erm_good_report.specs.Transactions.{op_of}
use Rattle.erm_beside.specs.Calls.{Passes}
use Rattle.erm_beside.specs.SafeFace.{AreRowsBelow}

-- A look was replied to as on the map of the rows below the begin stamp, in the world in which all end. Others went on, and the session is as it was.
pub record DidLookBeside (f : View) (seat : ℕ) (c : Command) (r : Reply) (v t : View) : Type 0 where
  pub passes : Passes seat v t
  pub op : Op
  pub asked : op_of c ≡ Some op
  pub reply : (rows : Rows) → IsSound rows → AreRowsBelow f (work_at v seat).begin rows → IsReplyOn (map_of_rows rows) op r
