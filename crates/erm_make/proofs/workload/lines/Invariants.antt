use Rattle.std.proofs.Common.{◌≡◌, ◌+◌, ◌*◌, ◌≤◌, ◌++◌, [], min, length}
use Rattle.erm_make.specs.Draws.{state_after}
use Rattle.erm_make.specs.Workload.{Adds, batches, load}
use Rattle.erm_make.proofs.workload.lines.Given as goal

-- the batches so far are there, and two keys were drawn for each of their transactions
abbrev pub invariant-loop-number : goal.invariant-loop-number
invariant-loop-number l =
    Adds (load ++ batches l.count l.sessions l.number) [] l.lines.items
    × (l.draws.state ≡ state_after (2 * min l.count (l.number * l.sessions)))
    × (length l.lines.items ≤ 97 + 6 * min l.count (l.number * l.sessions))
