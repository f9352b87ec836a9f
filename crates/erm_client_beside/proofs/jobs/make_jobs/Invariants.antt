use Rattle.std.proofs.Common.{◌≡◌, ◌+◌, ◌≤◌, ◌++◌, List, length, vec_len}
use Rattle.std.specs.Prelude.{vec_capacity}
use Rattle.std.specs.Vec.Iter.{into_iter_items, into_iter_len}
use Rattle.erm_client_beside.specs.Jobs.{AreJobs}
use Rattle.erm_client_beside.proofs.jobs.make_jobs.Given as goal

-- those that were yielded have a job each, with the sessions that came
abbrev pub invariant-loop-program : goal.invariant-loop-program
invariant-loop-program g l = (l.yielded ++ into_iter_items l.program-iterator ≡ into_iter_items l.initial.program-iterator)
    × (into_iter_len l.program-iterator ≡ length (into_iter_items l.program-iterator))
    × (l.seat ≡ length l.yielded)
    × ((gone : List _) × (gone ++ into_iter_items l.left ≡ l.fn.sessions.items) × (length gone ≡ length l.yielded))
    × AreJobs g.L.RowLaw.law l.fn.table l.fn._opening l.yielded l.jobs.items
    × (vec_len l.fn.programs ≤ l.met.parts + length l.yielded)
    × (l.met.amount ≡ 0)
    × (into_iter_len l.left ≡ length (into_iter_items l.left))
    × (vec_len l.fn.programs ≤ vec_capacity l.jobs)
