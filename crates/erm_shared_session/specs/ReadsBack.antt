-- A session reads its own commits back.
use Rattle.std.specs.Prelude.{◌≡◌, ℕ, ◌<◌, ◌⊎◌}
use Rattle.erm_model.specs.declared.history.VersionRead.{VersionRead}
use Rattle.erm_model.specs.declared.history.VersionWritten.{VersionWritten}
use Rattle.erm_model.specs.declared.outcome.Phase.TheVariants.{Active}
use Rattle.erm_model.specs.Member.{◌∈◌}
use Rattle.erm_world.specs.World.{View, Work, phase_at, work_at}
use Rattle.erm_world.specs.World as world

-- the session has committed this transaction with this stamp
pub record Committed (v : View) (seat : ℕ) (t : Work) (stamp : ℕ) : Type 0 where
  pub succ : ℕ
  pub pred : ℕ
  pub over : record { work = t; fate = world.commits stamp succ pred } ∈ (v.session seat).over

-- the version read is the one that a commit with this stamp made by this claim, or a later one
abbrev pub IsAtLeast : VersionRead → ℕ → VersionWritten → Type 0
IsAtLeast r stamp c = (stamp < r.stamp) ⊎ ((r.stamp ≡ stamp) × (r.row ≡ c.row))

-- What an active transaction has read of an object that its session committed before is that commit's row, or one that was committed after
-- it, by whomever.
abbrev pub ReadsBack : View → ℕ → Type 0
ReadsBack v seat = phase_at v seat ≡ Active → (t : Work) (stamp : ℕ) (c : VersionWritten) (r : VersionRead) → Committed v seat t stamp → c ∈ t.claims
    → r ∈ (work_at v seat).reads → r.oid ≡ c.oid → IsAtLeast r stamp c
