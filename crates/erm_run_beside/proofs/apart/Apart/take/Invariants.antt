use Rattle.std.proofs.Common.{◌≡◌, ◌≤◌, ◌++◌, List, length, map}
use Rattle.std.specs.Prelude.{vec_capacity}
use Rattle.std.specs.Vec.Iter.{into_iter_items, into_iter_len}
use Rattle.erm_run_beside.specs.Runs.{work_of}
use Rattle.erm_run_beside.proofs.apart.Apart.take.Given as goal

-- those that came are taken apart
abbrev pub invariant-loop-one : goal.invariant-loop-one
invariant-loop-one g l = (gone : List _) × (gone ++ into_iter_items l.left ≡ l.fn.done.items)
    × (into_iter_len l.left ≡ length (into_iter_items l.left))
    × (l.self.sessions.items ≡ map (λ d. d.session) gone)
    × (l.self.works.items ≡ map work_of gone)
    × (length l.fn.done.items ≤ vec_capacity l.self.sessions)
    × (length l.fn.done.items ≤ vec_capacity l.self.works)

abbrev pub decreases-loop-one : goal.decreases-loop-one
decreases-loop-one g l = into_iter_len l.left
