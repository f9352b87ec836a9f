-- Readers of versions in a sound state.
use Rattle.std.specs.Prelude.{◌≡◌, ℕ, ◌<◌, ◌≤◌, length}
use Rattle.erm_machine.specs.declared.part.Part.{Part}
use Rattle.erm_machine.specs.declared.version.VersionAt.{VersionAt}
use Rattle.erm_machine.specs.Readers.{cleared}
use Rattle.erm_machine.specs.Seat.{read_at}

-- the seat's transaction has read the version, and hasn't cleared its bit there
pub record IsReaderOf (x : Part) (v : VersionAt) : Type 0 where
  pub read : ℕ
  pub uncleared : cleared x ≤ read
  pub within : read < length x.current.reads
  pub oid_is : (read_at x.current read).version.oid ≡ v.oid
  pub place_is : (read_at x.current read).version.place ≡ v.place
