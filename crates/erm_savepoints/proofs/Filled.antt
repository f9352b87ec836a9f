-- A savepoint that is filled, row after row.
use Rattle.std.proofs.Common.{◌≡◌, ℕ, zero, suc, ◌<◌, Bool, List, [], ◌∷◌, ◌++◌, length, take, get_or, Option, refl, ap, arith}
use Rattle.erm_savepoints.specs.Saves.{row_set, rows_set}

pub rows_set_long : (rows : List (List ℕ)) (bs : List Bool) → length bs ≡ length rows → length (rows_set rows bs) ≡ length rows
rows_set_long [] bs same = refl
rows_set_long (row ∷ rows) [] same = absurd (omega (arith, same))
rows_set_long (row ∷ rows) (b ∷ bs) same = let rest = rows_set_long rows bs (omega (arith, same)) in omega (arith, rest)

pub rows_set_front : (rows : List (List ℕ)) (bs : List Bool) (i : ℕ) → i < length rows → length bs ≡ length rows → length (rows_set (take i rows) (take i bs)) ≡ i
rows_set_front [] bs i within same = absurd (omega (arith, within))
rows_set_front (row ∷ rows) [] i within same = absurd (omega (arith, same))
rows_set_front (row ∷ rows) (b ∷ bs) zero within same = refl
rows_set_front (row ∷ rows) (b ∷ bs) (suc i) within same = let rest = rows_set_front rows bs i (omega (arith, within)) (omega (arith, same)) in omega (arith, rest)

-- one row more
pub rows_set_next : (rows : List (List ℕ)) (bs : List Bool) (i : ℕ) (row : List ℕ) (b : Bool) → i < length rows → length bs ≡ length rows
    → rows_set (take (suc i) rows) (take (suc i) bs) ≡ rows_set (take i rows) (take i bs) ++ row_set (get_or rows i row) (get_or bs i b) ∷ []
rows_set_next [] bs i d e within same = absurd (omega (arith, within))
rows_set_next (row ∷ rows) [] i d e within same = absurd (omega (arith, same))
rows_set_next (row ∷ rows) (b ∷ bs) zero d e within same = refl
rows_set_next (row ∷ rows) (b ∷ bs) (suc i) d e within same =
    ap (λ (ss : List (Option (List ℕ))). row_set row b ∷ ss) (rows_set_next rows bs i d e (omega (arith, within)) (omega (arith, same)))
