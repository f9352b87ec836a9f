-- Skew: two transactions that each have read a version that the other overwrites.
use Rattle.std.specs.Prelude.{◌≡◌, ℕ, ◌<◌, ◌⊎◌, true, length}
use Rattle.erm_machine.specs.declared.attempt.Attempt.{Attempt}
use Rattle.erm_machine.specs.declared.part.Part.{Part}
use Rattle.erm_machine.specs.declared.task.Task.TheVariants as task
use Rattle.erm_machine.specs.Core.{claim_at}
use Rattle.erm_machine.specs.Seat.{is_sealed, read_at}

-- one transaction has read a version that another overwrites
pub record ReadsUnder (t u : Attempt) : Type 0 where
  pub read : ℕ
  pub write : ℕ
  pub is_read : read < length t.reads
  pub is_written : write < length u.writes
  pub oid_is : (read_at t read).version.oid ≡ (claim_at u write).version.oid
  pub place_is : (read_at t read).version.place ≡ (claim_at u write).version.place

-- WRITE SKEW: each of two transactions has read a version that the other overwrites (Berenson et al., "A critique of ANSI SQL
-- isolation levels", 1995).
pub record IsSkewed (t u : Attempt) : Type 0 where
  pub first : ReadsUnder t u
  pub second : ReadsUnder u t

-- a sealed transaction's settle has passed all versions that it read and overwrote
pub record HasPassedAll (x : Part) : Type 0 where
  pub sealed : is_sealed x.place ≡ true
  pub passed : (x.task ≡ task.Settles (length x.current.reads) (length x.current.writes)) ⊎ ((words : ℕ) × (x.task ≡ task.Fills words))
