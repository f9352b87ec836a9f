use Rattle.std.proofs.Common.{◌≡◌, ◌+◌, ◌*◌, vec_len}
use Rattle.erm_make.specs.Draws.{state_after}
use Rattle.erm_make.specs.Workload.{Adds, all_accesses}
use Rattle.erm_make.proofs.batches.push_all_accesses.Given as goal

abbrev pub invariant-loop-place : goal.invariant-loop-place
invariant-loop-place l =
    Adds (all_accesses l.first l.place) l.fn.lines.items l.lines.items × (vec_len l.lines ≡ vec_len l.fn.lines + 3 * l.place)
    × (l.draws.state ≡ state_after (2 * (l.first + l.place)))
