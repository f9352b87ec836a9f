-- The commits that wait, as they are kept: by turn.
use Rattle.std.specs.Prelude.{◌≡◌, ℕ, ◌≤◌, ◌<◌, List, map, Option, Some, None}
use Rattle.erm_model.specs.declared.history.Commit.{Commit}
use Rattle.erm_model.specs.Member.{◌∈◌}
use Rattle.erm_follow.specs.declared.seen.Broken.{Broken}
use Rattle.erm_follow.specs.declared.turn.Turn.{Turn}

-- the commit whose turn it is
abbrev pub commit_of : Turn → Commit
commit_of t = record { seat = t.seat; number = t.number; stamp = t.stamp.0; succ = t.succ }

abbrev pub commits_of_turns : List Turn → List Commit
commits_of_turns turns = map commit_of turns

-- Of turns that wait beside a safe stamp: none breaks it, a successor stamp is at most the commit's own, and stamps differ.
pub record IsKept (bound : ℕ) (turns : List Turn) : Type 0 where
  pub safe : (t : Turn) → t ∈ turns → bound ≤ t.succ
  pub within : (t : Turn) → t ∈ turns → t.succ ≤ t.stamp.0
  pub apart : (s t : Turn) → s ∈ turns → t ∈ turns → s.stamp.0 ≡ t.stamp.0 → s ≡ t

-- of commits the one with the least stamp at or above a safe stamp, or none
abbrev pub IsLeastFrom : ℕ → List Commit → Option Broken → Type 0
IsLeastFrom safe commits None = (c : Commit) → c ∈ commits → c.stamp < safe
IsLeastFrom safe commits (Some b) =
    (by : Commit) × (by ∈ commits) × (safe ≤ by.stamp) × (b.safe ≡ safe) × (b.stamp ≡ by.stamp) × (b.succ ≡ by.succ)
    × ((c : Commit) → c ∈ commits → safe ≤ c.stamp → b.stamp ≤ c.stamp)
