use Rattle.std.proofs.Common.{◌≡◌, take, None}
use Rattle.erm_core_steps.specs.Pinned.{row_below}
use Rattle.erm_lists.proofs.rows_at.row_below.Given as goal

abbrev pub invariant-loop-v : goal.invariant-loop-v
invariant-loop-v l = l.row ≡ row_below l.bound (take l.v-index l.versions) None
