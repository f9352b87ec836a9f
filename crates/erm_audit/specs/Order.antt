-- The serial order of commits, by their places in a list.
use Rattle.std.specs.Prelude.{◌≡◌, ℕ, ◌<◌, ◌⊎◌, List, Some}
use Rattle.std.specs.List.{filter_map, slice_get}
use Rattle.erm_model.specs.declared.history.Commit.{Commit}
use Rattle.erm_model.specs.SerialOrder.{ComesBefore, rank_of_commit}

-- the commits at these places
abbrev pub commits_at : List Commit → List ℕ → List Commit
commits_at commits places = filter_map (slice_get commits) places

-- The commit at the one place has its turn before that at the other: it comes before it in the serial order, or it has
-- the same stamps and stands before it.
abbrev pub HasTurnBefore : List Commit → ℕ → ℕ → Type 0
HasTurnBefore commits i j =
    (a b : Commit) → slice_get commits i ≡ Some a → slice_get commits j ≡ Some b → ComesBefore (rank_of_commit a) (rank_of_commit b) ⊎ ((rank_of_commit a ≡ rank_of_commit b) × (i < j))
