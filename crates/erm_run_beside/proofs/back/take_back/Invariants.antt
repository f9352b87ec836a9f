use Rattle.std.proofs.Common.{◌≡◌, ℕ, ◌≤◌, ◌++◌, List, Some, length, map}
use Rattle.std.specs.List.{slice_get}
use Rattle.std.specs.Prelude.{vec_capacity}
use Rattle.std.specs.Vec.Iter.{into_iter_items, into_iter_len}
use Rattle.erm_threads.specs.Work.{done_of}
use Rattle.erm_run_beside.proofs.back.take_back.Given as goal

-- what those that came have met is put together
abbrev pub invariant-loop-one : goal.invariant-loop-one
invariant-loop-one g l = (gone : List _) × (gone ++ into_iter_items l.left ≡ l.fn.back.items)
    × (into_iter_len l.left ≡ length (into_iter_items l.left))
    × (l.done.items ≡ map done_of gone)
    × ((k : ℕ) (b : _) → slice_get gone k ≡ Some b → b.turns.met.amount ≤ l.met.amount)
    × (length l.fn.back.items ≤ vec_capacity l.done)

abbrev pub decreases-loop-one : goal.decreases-loop-one
decreases-loop-one g l = into_iter_len l.left
