use Rattle.std.proofs.Common.{◌≡◌, ◌+◌, vec_len}
use Rattle.erm_make.specs.Workload.{Adds, loaded}
use Rattle.erm_make.proofs.load.push_loaded.Given as goal

abbrev pub invariant-loop-place : goal.invariant-loop-place
invariant-loop-place l = Adds (loaded l.first l.place) l.fn.lines.items l.lines.items × (vec_len l.lines ≡ vec_len l.fn.lines + l.place)
