use Rattle.std.proofs.Common.{◌≡◌, ℕ, ◌≤◌, ◌++◌, List, Some, length}
use Rattle.std.specs.List.{slice_get}
use Rattle.std.specs.Prelude.{vec_capacity}
use Rattle.std.specs.Vec.Iter.{into_iter_items, into_iter_len}
use Rattle.erm_client_beside.specs.Back.{AreBack}
use Rattle.erm_client_beside.proofs.back.take_back.Given as goal

-- what those that came leave stands there, and what they have met is put together
abbrev pub invariant-loop-job : goal.invariant-loop-job
invariant-loop-job g l = (gone : List _) × (gone ++ into_iter_items l.left ≡ l.fn.back.items)
    × (into_iter_len l.left ≡ length (into_iter_items l.left))
    × AreBack gone l.sessions.items l.runs.items
    × ((k : ℕ) (b : _) → slice_get gone k ≡ Some b → (left : _) → b.finished ≡ Some left → left.turns.turns.met.amount ≤ l.met.amount)
    × (length l.fn.back.items ≤ vec_capacity l.sessions)
    × (length l.fn.back.items ≤ vec_capacity l.runs)

abbrev pub decreases-loop-job : goal.decreases-loop-job
decreases-loop-job g l = into_iter_len l.left
