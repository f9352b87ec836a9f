-- What lasts of a transaction while its session's calls go on: its begin stamp, the versions that it has read, and those that it
-- overwrites.
use Rattle.std.specs.Prelude.{◌≡◌, ℕ, ◌<◌, length}
use Rattle.erm_machine.specs.declared.attempt.Attempt.{Attempt}
use Rattle.erm_machine.specs.declared.attempt.Decision.TheVariants.{Commit}
use Rattle.erm_machine.specs.declared.part.Part.{Part}
use Rattle.erm_machine.specs.declared.place.Place.TheVariants.{Idle}
use Rattle.erm_machine.specs.Core.{claim_at}
use Rattle.erm_machine.specs.Seat.{read_at}
use Rattle.erm_model.specs.declared.outcome.Outcome.{Outcome}
use Rattle.erm_model.specs.declared.outcome.Outcome.TheVariants.{Committed}
use Rattle.erm_model.specs.Member.{◌∈◌}
use Rattle.erm_rule.specs.declared.view.View.{View}
use Rattle.erm_rule.specs.Views.{part_of, with_part}

-- The later attempt has the begin stamp of the earlier one, at its place each version that was read, and at its place each that was to be
-- overwritten.
pub record Keeps (t u : Attempt) : Type 0 where
  pub begin : u.begin ≡ t.begin
  pub reads : (k : ℕ) → k < length t.reads → (k < length u.reads) × ((read_at u k).version ≡ (read_at t k).version)
  pub claims : (k : ℕ) → k < length t.writes → (k < length u.writes) × ((claim_at u k).version ≡ (claim_at t k).version)

-- Nothing of the pass's view is changed but that seat's part, and its transaction keeps that.
pub record Lasts (v : View) (who : ℕ) (w : View) : Type 0 where
  pub part : Part
  pub keeps : Keeps (part_of v who).current part.current
  pub view_is : w ≡ with_part who part v

-- the transaction has read a version of this object
abbrev pub HasReadOf : Attempt → ℕ → Type 0
HasReadOf t oid = (k : ℕ) × (k < length t.reads) × ((read_at t k).version.oid ≡ oid)

-- it has claimed this object
abbrev pub HasClaimOf : Attempt → ℕ → Type 0
HasClaimOf t oid = (k : ℕ) × (k < length t.writes) × ((claim_at t k).version.oid ≡ oid)

-- this outcome is a commit
abbrev pub IsCommitted : Outcome → Type 0
IsCommitted (Committed receipt) = Unit {0}
IsCommitted outcome = ⊥

-- Nothing of the pass's view is changed but that seat's part. The seat is idle, and among the transactions that are over stands this one,
-- which has kept that. It was decided as a commit where that is the outcome.
pub record IsOver (v : View) (who : ℕ) (outcome : Outcome) (w : View) : Type 0 where
  pub part : Part
  pub last : Attempt
  pub member : last ∈ part.over
  pub idle : part.place ≡ Idle
  pub keeps : Keeps (part_of v who).current last
  pub commits : IsCommitted outcome → last.decision ≡ Commit
  pub view_is : w ≡ with_part who part v
