-- Stamps that are passed.
use Rattle.std.specs.Prelude.{◌≡◌, ℕ, ◌≤◌, true}
use Rattle.erm_model.specs.Member.{◌∈◌}
use Rattle.erm_machine.specs.declared.attempt.Attempt.{Attempt}
use Rattle.erm_machine.specs.declared.part.Part.{Part}
use Rattle.erm_machine.specs.Back.{IsLeaving, IsSafeCommit}
use Rattle.erm_machine.specs.Core.{Core}
use Rattle.erm_machine.specs.Facts.{HasBegun}
use Rattle.erm_machine.specs.Words.{is_session}

-- The seat is passed at a stamp: what it has in progress begins there or later, and what it has committed, or has decided and not left
-- yet, is safe.
pub record IsPassed (b : ℕ) (x : Part) : Type 0 where
  pub begun : HasBegun x.place → b ≤ x.current.begin
  pub over : (t : Attempt) → t ∈ x.over → IsSafeCommit b t
  pub leaving : IsLeaving x.place → IsSafeCommit b x.current

-- The stamp is passed: it is at most the tail, so that what begins from now on begins there or later, and all sessions are passed at it.
pub record ArePassed (b : ℕ) (c : Core) : Type 0 where
  pub past : b ≤ c.shared.tail
  pub sessions : (q : ℕ) → is_session q ≡ true → IsPassed b (c.seats q)
