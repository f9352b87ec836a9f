-- Rows that are read one after another.
use Rattle.std.proofs.Common.{◌≡◌, ℕ, ◌+◌, ◌<◌, ⊎_elim, List, [], length, slice_set, sym, subst, arith}
use Rattle.std.proofs.lemmas.Bool.{cases_eq}
use Rattle.std.proofs.lemmas.List.{get_or-set_other, get_or-set_same}
use Rattle.erm_model.specs.Rows.{rows_of}
use Rattle.erm_world.specs.Log.{IsRowAt, Log}

-- one row more is read
pub read_more : (m : Log) (rows : List (List ℕ)) (oid : ℕ) (row : List ℕ) → oid < length rows → ((k : ℕ) → k < oid → IsRowAt m k (rows_of rows k)) → IsRowAt m oid row
    → (k : ℕ) → k < oid + 1 → IsRowAt m k (rows_of (slice_set rows oid row) k)
read_more m rows oid row within before here k low =
    ⊎_elim (λ (same : k ≡ oid). subst (λ (n : ℕ). IsRowAt m n (rows_of (slice_set rows oid row) n)) (sym same) (subst (IsRowAt m oid) (sym (get_or-set_same rows oid row [] within)) here))
    (λ (other : k ≡ oid → ⊥). subst (IsRowAt m k) (sym (get_or-set_other rows oid k row [] other)) (before k (omega (arith, low, other)))) (cases_eq k oid)
