-- A run on the disk that an earlier one left, wherever that was stopped.
use Rattle.std.specs.Prelude.{◌⊎◌, ℕ, ◌≤◌, List}
use Rattle.erm_model.specs.Committed.{Committed, IsStateBelow}
use Rattle.erm_ckpt.specs.Recovered.{State}
use Rattle.erm_crash.specs.Moments.{AtMoments, TearsApart}
use Rattle.erm_node.specs.Sound.{sound_law}
use Rattle.erm_node.specs.TreeMap.{map_of_rows}
use Rattle.erm_outside.specs.Disk.{Step}
use Rattle.erm_disk_run.specs.Crashes.{RecoversBelow}

-- A state is at or above a place, and its map is what some commits make below it, from another state on.
pub record HasCommits (commits : List Committed) (from : State) (place : ℕ) (found : State) : Type 0 where
  pub low : place ≤ found.at
  pub map : IsStateBelow commits (map_of_rows from.rows) found.at (map_of_rows found.rows)

-- At each moment of a second run each image recovers to the commits of the first one below a stamp, or to those of the second behind what it found:
-- to all below a place at least. So does each that shows each block and each slot whole, or none, both of what the second run wrote and of what the
-- first one left pending.
abbrev pub KeepsOfBoth : List Committed → State → ℕ → List Committed → State → List Step → List Step → Type 0
KeepsOfBoth first from place second found entry new =
    AtMoments (λ now image. TearsApart sound_law.meets entry image → TearsApart sound_law.meets now image
    → RecoversBelow first from place entry image ⊎ RecoversBelow second found place now image) entry new
