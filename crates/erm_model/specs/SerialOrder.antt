-- The serial order of commits: by successor stamp ascending, then by commit stamp descending. It is the order in which
-- the Serial Safety Net lets the committed transactions be run one after another (Wang, Johnson, Fekete, Pandis, 2017).
use Rattle.std.specs.Prelude.{◌≡◌, ℕ, ◌<◌, ◌⊎◌, nat_lt, List, Some}
use Rattle.std.specs.List.{AllPairs, filter, slice_get}
use Rattle.std.specs.List.Sorted.{IsPermutation}
use Rattle.erm_model.specs.declared.history.Commit.{Commit}

-- what places a commit in the serial order
pub record Rank : Type 0 where
  pub succ : ℕ
  pub stamp : ℕ

-- what places this commit there
abbrev pub rank_of_commit : Commit → Rank
rank_of_commit c = record { succ = c.succ; stamp = c.stamp }

-- a smaller successor stamp comes first, and of equal ones the greater commit stamp
abbrev pub ComesBefore : Rank → Rank → Type 0
ComesBefore a b = (a.succ < b.succ) ⊎ ((a.succ ≡ b.succ) × (b.stamp < a.stamp))

-- elements at different places have different commit stamps
abbrev pub StampsDiffer : {X : Type 0} → (X → Rank) → List X → Type 0
StampsDiffer {X} rank xs = (i j : ℕ) (a b : X) → slice_get xs i ≡ Some a → slice_get xs j ≡ Some b → (rank a).stamp ≡ (rank b).stamp → i ≡ j

-- order has just these elements, in the serial order
pub record IsSerialOrder {X : Type 0} (rank : X → Rank) (xs order : List X) : Type 0 where
  pub same : IsPermutation xs order
  pub ascends : AllPairs (λ a b. ComesBefore (rank a) (rank b)) order

-- those of some commits whose stamp is below a bound
abbrev pub below_by : {X : Type 0} → (X → Rank) → ℕ → List X → List X
below_by rank bound xs = filter (λ x. nat_lt (rank x).stamp bound) xs
