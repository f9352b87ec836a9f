use Rattle.std.proofs.Common.{◌≡◌, length}
use Rattle.erm_world.specs.World.{View}
use Rattle.erm_crash.specs.Kept.{LeavesLog}
use Rattle.erm_log_run.specs.Closing.{IsClosing}
use Rattle.erm_log_run.proofs.Passing.{Passed}
use Rattle.erm_log_run.proofs.closes.close_open.Given as goal

-- the sessions so far were passed
abbrev pub invariant-loop-place : goal.invariant-loop-place
invariant-loop-place g l =
    g.W.RowWorld.stands l.world × (length l.ends.items ≡ l.sessions)
    × Passed (g.W.RowWorld.view l.fn.world) l.place (g.W.RowWorld.view l.world)
    × ((v : View) → IsClosing v l.sessions l.fn.ends.items (g.W.RowWorld.view l.fn.world) → IsClosing v l.sessions l.ends.items (g.W.RowWorld.view l.world))
    × LeavesLog (g.W.RowWorld.view l.fn.world) (g.W.RowWorld.view l.world)
