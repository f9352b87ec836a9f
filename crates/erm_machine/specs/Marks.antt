-- Marks: who overwrote a version, and so made the next one.
use Rattle.std.specs.Prelude.{◌≡◌, ℕ, ◌+◌, ◌<◌, length, false}
use Rattle.erm_model.specs.Member.{◌∈◌}
use Rattle.erm_machine.specs.declared.limits.TheConstants.{OBJECT_LIMIT}
use Rattle.erm_machine.specs.declared.attempt.Attempt.{Attempt}
use Rattle.erm_machine.specs.declared.attempt.Claim.{Claim}
use Rattle.erm_machine.specs.declared.attempt.Decision.TheVariants.{Commit}
use Rattle.erm_machine.specs.declared.part.Part.{Part}
use Rattle.erm_machine.specs.Core.{Shared, version_at}
use Rattle.erm_machine.specs.Facts.{all_of}

-- some committed transaction with these stamps has overwritten the version at a place of an object
abbrev pub HasOverwritten : (ℕ → Part) → (oid place stamp succ : ℕ) → Type 0
HasOverwritten seats oid place stamp succ = (p : ℕ) × (t : Attempt) × (w : Claim) × (t ∈ all_of (seats p)) × (t.decision ≡ Commit) × (t.stamp ≡ stamp)
    × (t.succ ≡ succ) × (w ∈ t.writes) × (w.version.oid ≡ oid) × (w.version.place ≡ place)

-- each version but the oldest was made by a commit with its stamp that overwrote the version before, whose successor stamp
-- stands there
pub record Marks (s : Shared) (seats : ℕ → Part) : Type 0 where
  pub made : (oid place : ℕ) → oid < OBJECT_LIMIT → place + 1 < length (s.objects oid).versions
      → HasOverwritten seats oid place (version_at (s.objects oid) (place + 1)).words.stamp (version_at (s.objects oid) place).words.overwriter_succ
  pub opened : (oid : ℕ) → oid < OBJECT_LIMIT → (version_at (s.objects oid) 0).words.stamp ≡ 0

-- what a claim overwrites is a version of that stamp
pub record IsWritten (s : Shared) (w : Claim) : Type 0 where
  pub object : w.version.oid < OBJECT_LIMIT
  pub within : w.version.place < length (s.objects w.version.oid).versions
  pub stamp : (version_at (s.objects w.version.oid) w.version.place).words.stamp ≡ w.stamp

-- a commit has installed the next version, and left its stamps
pub record IsInstalled (s : Shared) (t : Attempt) (w : Claim) : Type 0 where
  pub next : w.version.place + 1 < length (s.objects w.version.oid).versions
  pub stamp : (version_at (s.objects w.version.oid) (w.version.place + 1)).words.stamp ≡ t.stamp
  pub succ : (version_at (s.objects w.version.oid) w.version.place).words.overwriter_succ ≡ t.succ

-- each claim overwrites a version, and each one of a commit that is over has installed the next
pub record OwnMarks (s : Shared) (x : Part) : Type 0 where
  pub written : (t : Attempt) (w : Claim) → t ∈ all_of x → w ∈ t.writes → IsWritten s w
  pub installed : (t : Attempt) (w : Claim) → t ∈ all_of x → t.decision ≡ Commit → w ∈ t.writes → w.held ≡ false → IsInstalled s t w
  pub over : (t : Attempt) (w : Claim) → t ∈ x.over → w ∈ t.writes → w.held ≡ false
