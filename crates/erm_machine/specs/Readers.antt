-- Readers: the bit of a reader stands until its reader stamp is raised.
use Rattle.std.specs.Prelude.{◌≡◌, ◌≢◌, ℕ, ◌<◌, ◌≤◌, ◌⊎◌, length}
use Rattle.std.specs.Int.{bit_at}
use Rattle.erm_model.specs.Member.{◌∈◌}
use Rattle.erm_machine.specs.declared.limits.TheConstants.{OBJECT_LIMIT}
use Rattle.erm_machine.specs.declared.attempt.Attempt.{Attempt}
use Rattle.erm_machine.specs.declared.attempt.Read.{Read}
use Rattle.erm_machine.specs.declared.attempt.Decision.TheVariants.{Commit}
use Rattle.erm_machine.specs.declared.part.Part.{Part}
use Rattle.erm_machine.specs.declared.place.Place.{Place}
use Rattle.erm_machine.specs.declared.place.Place.TheVariants.{Leaving}
use Rattle.erm_machine.specs.declared.task.Task.{Task}
use Rattle.erm_machine.specs.declared.task.Task.TheVariants as task
use Rattle.erm_machine.specs.declared.version.VersionAt.{VersionAt}
use Rattle.erm_machine.specs.Core.{Shared, version_at}
use Rattle.erm_machine.specs.Facts.{all_of}
use Rattle.erm_machine.specs.Seat.{read_at}

-- how many of its reader bits the current transaction has cleared
abbrev pub cleared_of : Place → Task → ℕ → ℕ
cleared_of (Leaving stamp) t reads = reads
cleared_of p (task.Ends raised ended step cleared) reads = cleared
cleared_of p t reads = 0

-- how many reader stamps the current transaction has raised
abbrev pub raised_of : Place → Task → ℕ → ℕ
raised_of (Leaving stamp) t reads = reads
raised_of p (task.Ends raised ended step cleared) reads = raised
raised_of p t reads = 0

abbrev pub cleared : Part → ℕ
cleared x = cleared_of x.place x.task (length x.current.reads)

abbrev pub raised : Part → ℕ
raised x = raised_of x.place x.task (length x.current.reads)

-- some committed transaction with this stamp has read the version
abbrev pub HasRead : (ℕ → Part) → VersionAt → ℕ → Type 0
HasRead seats v stamp = (p : ℕ) × (t : Attempt) × (r : Read) × (t ∈ all_of (seats p)) × (t.decision ≡ Commit) × (t.stamp ≡ stamp)
    × (r ∈ t.reads) × (r.version.oid ≡ v.oid) × (r.version.place ≡ v.place)

-- the reader stamp of a version is its creator's or that of a committed reader, whichever is greater
pub record Readers (s : Shared) (seats : ℕ → Part) : Type 0 where
  pub least : (oid place : ℕ) → oid < OBJECT_LIMIT → place < length (s.objects oid).versions
      → (version_at (s.objects oid) place).words.stamp ≤ (version_at (s.objects oid) place).words.reader_stamp
  pub attained : (v : VersionAt) → v.oid < OBJECT_LIMIT → v.place < length (s.objects v.oid).versions
      → ((version_at (s.objects v.oid) v.place).words.reader_stamp ≡ (version_at (s.objects v.oid) v.place).words.stamp)
      ⊎ HasRead seats v (version_at (s.objects v.oid) v.place).words.reader_stamp

-- the reader bit of a seat at a version
abbrev pub bit_of : Shared → ℕ → ℕ → ℕ → ℕ
bit_of s seat oid place = bit_at (version_at (s.objects oid) place).words.readers seat

-- The versions read are of different objects. The bit of a registered reader stands until its clearing, and no other bit of
-- the seat. A committed reader has raised the reader stamp before its bit is cleared.
pub record OwnReaders (s : Shared) (seat : ℕ) (x : Part) : Type 0 where
  pub once : (j k : ℕ) → j < k → k < length x.current.reads → (read_at x.current j).version.oid ≢ (read_at x.current k).version.oid
  pub stands : (k : ℕ) → cleared x ≤ k → k < length x.current.reads
      → bit_of s seat (read_at x.current k).version.oid (read_at x.current k).version.place ≡ 1
  pub only : (oid place : ℕ) → oid < OBJECT_LIMIT → place < length (s.objects oid).versions → bit_of s seat oid place ≡ 1
      → (k : ℕ) × (cleared x ≤ k) × (k < length x.current.reads)
      × ((read_at x.current k).version.oid ≡ oid) × ((read_at x.current k).version.place ≡ place)
  pub before : x.current.decision ≡ Commit → 0 < cleared x → length x.current.reads ≤ raised x
  pub raising : x.current.decision ≡ Commit → (k : ℕ) → k < raised x → k < length x.current.reads
      → x.current.stamp ≤ (version_at (s.objects (read_at x.current k).version.oid) (read_at x.current k).version.place).words.reader_stamp
  pub over : (t : Attempt) (r : Read) → t ∈ x.over → t.decision ≡ Commit → r ∈ t.reads
      → t.stamp ≤ (version_at (s.objects r.version.oid) r.version.place).words.reader_stamp
