-- A log followed: commits as they are read, each told once no later commit can come before it.
use Rattle.std.specs.Prelude.{◌≡◌, ℕ, ◌<◌, ◌≤◌, ◌⊎◌, List, [], ◌∷◌, nat_lt, nat_le, if◌then◌else◌, Option, Some, None}
use Rattle.std.specs.List.{AllPairs}
use Rattle.erm_model.specs.declared.history.Commit.{Commit}
use Rattle.erm_model.specs.Member.{◌∈◌}
use Rattle.erm_model.specs.SerialOrder.{ComesBefore, rank_of_commit}
use Rattle.erm_follow.specs.declared.seen.Seen.{Seen}
use Rattle.erm_follow.specs.declared.seen.Seen.TheVariants as seen
use Rattle.erm_follow.specs.declared.seen.Broken.{Broken}
use Rattle.erm_follow.specs.declared.seen.FollowStop.{FollowStop}
use Rattle.erm_follow.specs.declared.seen.FollowStop.TheVariants as stop

-- what a follower knows
pub record Followed : Type 0 where
  -- where the log that is read begins
  pub base : ℕ
  -- the greatest safe stamp heard, or 0
  pub safe : ℕ
  -- the commits read that were not told, in the serial order
  pub waiting : List Commit
  -- the commit that broke a safe stamp, with that stamp
  pub broken : Option Broken

-- at first
abbrev pub start : ℕ → Followed
start base = record { base = base; safe = 0; waiting = []; broken = None }

-- the greatest safe stamp after one more item; one below the base is passed over
abbrev pub greatest : ℕ → ℕ → Seen → ℕ
greatest base safe (seen.Commit c) = safe
greatest base safe (seen.Safe b) =
    if nat_le base b then (if nat_lt safe b then b else safe) else safe

-- the commits read, with one more item
abbrev pub heard : Seen → List Commit → List Commit
heard (seen.Commit c) waiting = c ∷ waiting
heard (seen.Safe b) waiting = waiting

-- A safe stamp promises that each commit at or above it has a successor stamp at or above it: this one has not.
abbrev pub Breaks : ℕ → Commit → Type 0
Breaks b c = (b ≤ c.stamp) × (c.succ < b)

-- what may be read next: commits by ascending stamp, with a successor stamp up to their own, and none below a safe stamp
abbrev pub MayTake : Followed → Seen → Type 0
MayTake f (seen.Commit c) =
    ((w : Commit) → w ∈ f.waiting → w.stamp < c.stamp) × (c.succ ≤ c.stamp) × (f.safe ≤ c.stamp)
MayTake f (seen.Safe b) = Unit {0}

-- each commit comes before each later one in the serial order
abbrev pub IsInOrder : List Commit → Type 0
IsInOrder lines = AllPairs (λ a b. ComesBefore (rank_of_commit a) (rank_of_commit b)) lines

-- After one more item just the commits below the safe stamp are told, in the serial order, and the others wait.
pub record GivesNext (f : Followed) (s : Seen) (lines : List Commit) (g : Followed) : Type 0 where
  pub base : g.base ≡ f.base
  pub safe : g.safe ≡ greatest f.base f.safe s
  pub whole : f.broken ≡ None
  pub still : g.broken ≡ None
  pub order : IsInOrder lines
  pub given : (c : Commit) → c ∈ lines → (c ∈ heard s f.waiting) × (c.stamp < g.safe)
  pub all : (c : Commit) → c ∈ heard s f.waiting → c.stamp < g.safe → c ∈ lines
  pub waits : (c : Commit) → c ∈ g.waiting → (c ∈ heard s f.waiting) × (g.safe ≤ c.stamp)
  pub rest : (c : Commit) → c ∈ heard s f.waiting → g.safe ≤ c.stamp → c ∈ g.waiting
  pub clean : (c : Commit) → c ∈ heard s f.waiting → Breaks g.safe c → ⊥

-- One more item shows a commit that breaks the safe stamp: the one with the least stamp of those that do. Nothing is told.
pub record BreaksNow (f : Followed) (s : Seen) (b : Broken) (g : Followed) : Type 0 where
  pub whole : f.broken ≡ None
  pub safe : b.safe ≡ greatest f.base f.safe s
  pub by : Commit
  pub there : by ∈ heard s f.waiting
  pub breaks : Breaks b.safe by
  pub told : (b.stamp ≡ by.stamp) × (b.succ ≡ by.succ)
  pub least : (c : Commit) → c ∈ heard s f.waiting → Breaks b.safe c → b.stamp ≤ c.stamp
  pub stays : g ≡ record f { broken = Some b }

-- why nothing is told: a safe stamp is broken, now or before, and stays so; or memory ran out, and nothing is changed
abbrev pub IsStop : Followed → Seen → FollowStop → Followed → Type 0
IsStop f s (stop.BrokenMark b) g = BreaksNow f s b g ⊎ ((f.broken ≡ Some b) × (g ≡ f))
IsStop f s stop.Memory g = (f.broken ≡ None) × (g ≡ f)
