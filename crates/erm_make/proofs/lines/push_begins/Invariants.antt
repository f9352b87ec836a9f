use Rattle.std.proofs.Common.{◌≡◌, ◌+◌, vec_len}
use Rattle.erm_make.specs.Workload.{Adds, by_each}
use Rattle.erm_script.specs.declared.script.Command.TheVariants as command
use Rattle.erm_make.proofs.lines.push_begins.Given as goal

abbrev pub invariant-loop-place : goal.invariant-loop-place
invariant-loop-place l = Adds (by_each l.place command.Begin) l.fn.lines.items l.lines.items × (vec_len l.lines ≡ vec_len l.fn.lines + l.place)
