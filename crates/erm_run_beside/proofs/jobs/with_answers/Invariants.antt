use Rattle.std.proofs.Common.{◌≡◌, ◌++◌, length, map}
use Rattle.std.specs.List.{All}
use Rattle.std.specs.Vec.Iter.{into_iter_items, into_iter_len}
use Rattle.erm_run_beside.specs.Jobs.{HasRoom}
use Rattle.erm_run_beside.proofs.jobs.with_answers.Given as goal

abbrev pub invariant-loop-lines : goal.invariant-loop-lines
invariant-loop-lines l = (l.yielded ++ into_iter_items l.lines-iterator ≡ into_iter_items l.initial.lines-iterator)
    × (into_iter_len l.lines-iterator ≡ length (into_iter_items l.lines-iterator))
    × (map (λ p. p.lines.items) l.made.items ≡ map (λ p. p.items) l.yielded)
    × All HasRoom l.made.items
