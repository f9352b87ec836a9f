-- What a follower has told of a log, and logs that keep what their safe stamps promise.
use Rattle.std.specs.Prelude.{◌≡◌, ℕ, ◌<◌, ◌≤◌, List, [], ◌∷◌, ◌++◌, None}
use Rattle.erm_model.specs.declared.history.Commit.{Commit}
use Rattle.erm_model.specs.Member.{◌∈◌}
use Rattle.erm_model.specs.SerialOrder.{StampsDiffer, rank_of_commit}
use Rattle.erm_follow.specs.declared.seen.Seen.{Seen}
use Rattle.erm_follow.specs.declared.seen.Seen.TheVariants as seen
use Rattle.erm_follow.specs.Follow.{Breaks, Followed, IsInOrder, greatest}

-- the commits of a log
abbrev pub commits_of : List Seen → List Commit
commits_of [] = []
commits_of (seen.Commit c ∷ log) = c ∷ commits_of log
commits_of (seen.Safe b ∷ log) = commits_of log

-- the greatest safe stamp of a log that is at or above the base, or the one before it
abbrev pub greatest_of : ℕ → ℕ → List Seen → ℕ
greatest_of base safe [] = safe
greatest_of base safe (s ∷ log) = greatest_of base (greatest base safe s) log

-- A log keeps what its safe stamps promise: each commit at or above one has a successor stamp at or above it.
abbrev pub IsShipped : List Seen → Type 0
IsShipped log = (b : ℕ) (c : Commit) → seen.Safe b ∈ log → c ∈ commits_of log → b ≤ c.stamp → b ≤ c.succ

-- Of a log from a base on, a follower has told just the commits below the greatest safe stamp, in the serial order, and the
-- others wait: none breaks a safe stamp so far.
pub record HasGiven (base : ℕ) (log : List Seen) (lines : List Commit) (f : Followed) : Type 0 where
  pub from : f.base ≡ base
  pub whole : f.broken ≡ None
  pub safe : f.safe ≡ greatest_of base 0 log
  pub order : IsInOrder lines
  pub given : (c : Commit) → c ∈ lines → (c ∈ commits_of log) × (c.stamp < f.safe)
  pub all : (c : Commit) → c ∈ commits_of log → c.stamp < f.safe → c ∈ lines
  pub waits : (c : Commit) → c ∈ f.waiting → (c ∈ commits_of log) × (f.safe ≤ c.stamp)
  pub rest : (c : Commit) → c ∈ commits_of log → f.safe ≤ c.stamp → c ∈ f.waiting
  pub within : (c : Commit) → c ∈ commits_of log → c.succ ≤ c.stamp
  pub clean : (c : Commit) → c ∈ commits_of log → Breaks f.safe c → ⊥
  pub differ : StampsDiffer rank_of_commit (commits_of log)

-- a log goes on behind what was read: stamps differ, and no later commit lies below the safe stamp
pub record GoesOn (f : Followed) (log more : List Seen) : Type 0 where
  pub differ : StampsDiffer rank_of_commit (commits_of (log ++ more))
  pub later : (c : Commit) → c ∈ commits_of more → f.safe ≤ c.stamp
