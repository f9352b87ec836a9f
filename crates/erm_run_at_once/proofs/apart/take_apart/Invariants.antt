use Rattle.std.proofs.Common.{◌≡◌, ◌++◌, length, map}
use Rattle.std.specs.Vec.Iter.{into_iter_items, into_iter_len}
use Rattle.erm_summary.specs.Told.{closed_of}
use Rattle.erm_joined.specs.Merged.{closes_from}
use Rattle.erm_run_at_once.specs.Ran.{answers_of, closes_of}
use Rattle.erm_run_at_once.proofs.apart.take_apart.Given as goal

-- the works that were yielded are taken apart
abbrev pub invariant-loop-work : goal.invariant-loop-work
invariant-loop-work l = (l.yielded ++ into_iter_items l.work-iterator ≡ into_iter_items l.initial.work-iterator)
    × (l.seat ≡ length l.yielded)
    × (map (λ p. p.items) l.apart.parts.items ≡ answers_of l.yielded)
    × (map closed_of l.apart.closed.items ≡ closes_from 1 (closes_of l.yielded))
    × (into_iter_len l.work-iterator ≡ length (into_iter_items l.work-iterator))
