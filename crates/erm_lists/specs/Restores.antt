-- Going back, one claim after another.
use Rattle.std.specs.Prelude.{◌≡◌, ℕ, false, List, slice_set, Option, Some, None}
use Rattle.std.specs.List.{slice_get}
use Rattle.erm_model.specs.declared.history.VersionWritten.{VersionWritten}
use Rattle.erm_world.specs.Going.{found_by}
use Rattle.erm_world.specs.Saves.{undone}
use Rattle.erm_world.specs.World.{Work}

-- a claim as it was at a savepoint, or with the row that it found, where it wasn't made yet
abbrev pub restored_claim : Option VersionWritten → VersionWritten → VersionWritten
restored_claim (Some s) c = s
restored_claim None c = undone c

-- claims that leave the row that they found where no write has set it
abbrev pub AreKept : List VersionWritten → Type 0
AreKept claims = (k : ℕ) (c : VersionWritten) → slice_get claims k ≡ Some c → c.is_set ≡ false → c.row ≡ c.base

-- a claim found what it did at a savepoint, where it left the row found if no write had set it
pub record IsAsFound (c s : VersionWritten) : Type 0 where
  pub found : found_by c ≡ found_by s
  pub kept : s.is_set ≡ false → s.row ≡ s.base

-- it wasn't made yet at the savepoint, or was this one
abbrev pub WasFound : Option VersionWritten → VersionWritten → Type 0
WasFound (Some s) c = IsAsFound c s
WasFound None c = Unit {0}

-- a transaction whose claim at a place is this one
abbrev pub with_claim : ℕ → VersionWritten → Work → Work
with_claim place c w = record w { claims = slice_set w.claims place c }
