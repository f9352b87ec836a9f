-- Written: the rows that claims leave, and those that are installed.
use Rattle.std.specs.Prelude.{◌≡◌, ◌≢◌, ℕ, ◌+◌, ◌<◌, ◌≤◌, true, false, ◌==◌, if◌then◌else◌, length, take, Some, None}
use Rattle.erm_model.specs.Member.{◌∈◌}
use Rattle.erm_machine.specs.declared.limits.TheConstants.{OBJECT_LIMIT}
use Rattle.erm_machine.specs.declared.attempt.Attempt.{Attempt}
use Rattle.erm_machine.specs.declared.attempt.Claim.{Claim}
use Rattle.erm_machine.specs.declared.attempt.Decision.TheVariants.{Commit}
use Rattle.erm_machine.specs.declared.attempt.OwnCell.{OwnCell}
use Rattle.erm_machine.specs.declared.part.Part.{Part}
use Rattle.erm_machine.specs.declared.place.Place.{Place}
use Rattle.erm_machine.specs.declared.place.Place.TheVariants.{Active}
use Rattle.erm_machine.specs.declared.task.Task.{Task}
use Rattle.erm_machine.specs.declared.task.Task.TheVariants as task
use Rattle.erm_machine.specs.Core.{Shared, version_at, claim_at}
use Rattle.erm_machine.specs.Facts.{all_of}
use Rattle.erm_machine.specs.Seat.{last_claim}

-- each version's row has 16 words
pub record Rowed (s : Shared) : Type 0 where
  pub rows : (oid place : ℕ) → oid < OBJECT_LIMIT → place < length (s.objects oid).versions → length (version_at (s.objects oid) place).words.row ≡ 16

-- how many words of the row are in the newest claim's own cell: all but where they are copied, or an abort may have left them
abbrev pub copied : Place → Task → ℕ
copied (Active tail) (task.Ends raised ended step cleared) = 0
copied p task.Fetched = 0
copied p (task.Copies word) = word
copied p t = 16

abbrev pub copied_at : Part → ℕ → ℕ
copied_at x place = if place == last_claim x.current then copied x.place x.task else 16

-- a claim's own cell has the words of its row so far
pub record CellFits (words : ℕ) (w : Claim) (own : OwnCell) : Type 0 where
  pub size : length own.words.row ≡ 16
  pub row : take words own.words.row ≡ take words w.row

-- a claim's row has 16 words; where no write has set it it is that of the version overwritten
pub record RowFits (s : Shared) (w : Claim) : Type 0 where
  pub size : length w.row ≡ 16
  pub base : w.base ≡ (version_at (s.objects w.version.oid) w.version.place).words.row
  pub kept : w.is_set ≡ false → w.row ≡ w.base

-- where the newest claim has a cell into which its row is still to be copied
abbrev pub Copying : Task → Type 0
Copying task.Fetched = Unit {0}
Copying (task.Copies word) = Unit {0}
Copying _ = ⊥

-- The rows of a seat's claims, of those that commits have installed, and of its spare cells. No write has set a row before
-- the claim has a cell with all of it. What a claim overwrites lies below the begin stamp, which lies above 0 and at or below
-- a commit's stamp; a transaction claims each object once.
pub record OwnWritten (s : Shared) (x : Part) : Type 0 where
  pub spare : (own : OwnCell) → own ∈ x.spare → length own.words.row ≡ 16
  pub cells : (k : ℕ) → k < length x.current.writes → (own : OwnCell) → (claim_at x.current k).own ≡ Some own
      → CellFits (copied_at x k) (claim_at x.current k) own
  pub bare : (k : ℕ) → k < length x.current.writes → (claim_at x.current k).held ≡ true → (claim_at x.current k).own ≡ None
      → (claim_at x.current k).is_set ≡ false
  pub copying : Copying x.task → (claim_at x.current (last_claim x.current)).is_set ≡ false
  pub rows : (t : Attempt) (w : Claim) → t ∈ all_of x → w ∈ t.writes → RowFits s w
  pub first : (t : Attempt) (w : Claim) → t ∈ all_of x → w ∈ t.writes → w.stamp < t.begin
  pub sealed : (t : Attempt) → t ∈ all_of x → t.decision ≡ Commit → (0 < t.begin) × (t.begin ≤ t.stamp)
  pub once : (t : Attempt) → t ∈ x.over → (j k : ℕ) → j < k → k < length t.writes → (claim_at t j).version.oid ≢ (claim_at t k).version.oid
  pub installed : (t : Attempt) (w : Claim) → t ∈ all_of x → t.decision ≡ Commit → w ∈ t.writes → w.held ≡ false
      → (version_at (s.objects w.version.oid) (w.version.place + 1)).words.row ≡ w.row
