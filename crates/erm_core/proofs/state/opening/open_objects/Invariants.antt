use Rattle.std.proofs.Common.{ℕ, ◌≡◌, ◌<◌, [], map, get_or, vec_len}
use Rattle.erm_machine.specs.Core.{no_object, opened_object}
use Rattle.erm_kept.specs.Objects.{object_of}
use Rattle.erm_core.proofs.state.opening.open_objects.Given as goal

abbrev pub invariant-loop-cell : goal.invariant-loop-cell
invariant-loop-cell l =
    (vec_len l.objects ≡ l.cell)
    × ((oid : ℕ) → oid < l.cell → get_or (map object_of l.objects.items) oid no_object ≡ opened_object (λ (k : ℕ). get_or l.rows k []) oid)
