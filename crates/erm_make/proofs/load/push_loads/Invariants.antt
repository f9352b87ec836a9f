use Rattle.std.proofs.Common.{◌≡◌, ◌+◌, ◌*◌, vec_len}
use Rattle.erm_make.specs.Workload.{Adds, loads}
use Rattle.erm_make.proofs.load.push_loads.Given as goal

abbrev pub invariant-loop-number : goal.invariant-loop-number
invariant-loop-number l = Adds (loads l.number) l.fn.lines.items l.lines.items × (vec_len l.lines ≡ vec_len l.fn.lines + 6 * l.number)
