use Rattle.std.proofs.Common.{◌≡◌, ◌+◌, ◌≤◌, ◌++◌, List, length, map, vec_len}
use Rattle.std.specs.Prelude.{vec_capacity}
use Rattle.std.specs.Vec.Iter.{into_iter_items, into_iter_len}
use Rattle.erm_run_beside.specs.Jobs.{AreJobs}
use Rattle.erm_run_beside.proofs.jobs.make_jobs.Given as goal

abbrev pub invariant-loop-part : goal.invariant-loop-part
invariant-loop-part g l = (l.yielded ++ into_iter_items l.part-iterator ≡ into_iter_items l.initial.part-iterator)
    × (into_iter_len l.part-iterator ≡ length (into_iter_items l.part-iterator))
    × (l.seat ≡ length l.yielded)
    × ((gone : List _) × (gone ++ into_iter_items l.left ≡ l.fn.sessions.items) × (length gone ≡ length l.yielded) × AreJobs gone (map (λ p. p.lines.items) l.yielded) l.jobs.items)
    × (vec_len l.fn.sessions ≤ l.met.parts + length l.yielded)
    × (l.met.amount ≡ 0)
    × (into_iter_len l.left ≡ length (into_iter_items l.left))
    × (vec_len l.fn.parts ≤ vec_capacity l.jobs)
