-- What a row that was loaded is, as long as its reader's begin word stands.
use Rattle.std.specs.Prelude.{◌≡◌, ℕ, ◌<◌, ◌≤◌, length}
use Rattle.erm_machine.specs.declared.attempt.Read.{Read}
use Rattle.erm_machine.specs.Core.{Core, Object, version_at}
use Rattle.erm_machine.specs.Snapshot.{IsNewestAt}

-- each version of the object is still one of it, with its row
pub record SameRows (o u : Object) : Type 0 where
  pub count : length o.versions ≤ length u.versions
  pub rows : (place : ℕ) → place < length o.versions → (version_at u place).words.row ≡ (version_at o place).words.row

-- the version read is in its object's chain, in the cell that its name says, with the row read, and is the newest below the bound
pub record ReadStands (c : Core) (bound : ℕ) (r : Read) : Type 0 where
  pub attached : (c.shared.objects r.version.oid).cut ≤ r.version.place
  pub cell : (version_at (c.shared.objects r.version.oid) r.version.place).cell ≡ r.version.cell
  pub newest : IsNewestAt (c.shared.objects r.version.oid) r.version.place bound r.stamp
  pub row : (version_at (c.shared.objects r.version.oid) r.version.place).words.row ≡ r.row
