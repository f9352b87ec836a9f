-- Attached: what a begin may still read isn't cut off.
use Rattle.std.specs.Prelude.{ℕ, ◌<◌}
use Rattle.erm_machine.specs.declared.limits.TheConstants.{OBJECT_LIMIT}
use Rattle.erm_machine.specs.declared.part.Part.{Part}
use Rattle.erm_machine.specs.Core.{Shared, version_at}
use Rattle.erm_machine.specs.Facts.{HasBegun}

-- The oldest version of each chain lies below the begin stamp of each seat that has begun: so the greatest version below that
-- stamp, and all newer ones, are attached.
pub record OwnAttached (s : Shared) (x : Part) : Type 0 where
  pub below : (oid : ℕ) → oid < OBJECT_LIMIT → HasBegun x.place → (version_at (s.objects oid) (s.objects oid).cut).words.stamp < x.current.begin
