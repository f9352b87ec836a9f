-- How sessions are closed: in each order alike.
use Rattle.std.specs.Prelude.{◌≡◌, ℕ, List}
use Rattle.std.specs.List.{All}
use Rattle.erm_model.specs.declared.outcome.Phase.TheVariants.{Idle}
use Rattle.erm_node.specs.Sound.{sound_law}
use Rattle.erm_world.specs.Laws.{IsSerializable}
use Rattle.erm_world.specs.World.{IsSession, View, phase_at}
use Rattle.erm_lines.specs.Executions.{IsExecution, IsLast, Move}
use Rattle.erm_log_run.specs.Closing.{end_of}

-- moves close all sessions of a view
pub record ClosesAll (v : View) (closing : List Move) (t : View) : Type 0 where
  pub last : All IsLast closing
  pub closes : IsExecution v closing t
  pub idle : (seat : ℕ) → IsSession t seat → phase_at t seat ≡ Idle

-- However all sessions of a world are closed, each is closed with the same answer: what becomes of a sealed transaction is decided by the
-- stamps of those that are sealed, and not by the order in which they are asked.
abbrev pub SessionsCloseAlike : Type 0
SessionsCloseAlike = (v t u : View) (first second : List Move) → IsSerializable sound_law v → ClosesAll v first t → ClosesAll v second u
    → (seat : ℕ) → end_of first seat ≡ end_of second seat
