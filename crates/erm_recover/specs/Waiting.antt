-- What an opening waits for before it writes.
use Rattle.std.specs.Prelude.{ℕ, ◌+◌, ◌/◌, ◌<◌, ◌≤◌, ◌⊎◌, List}
use Rattle.erm_model.specs.declared.limits.TheConstants.{SEGMENT_WORDS}
use Rattle.erm_outside.specs.declared.disk.File.TheVariants.{Segment}
use Rattle.erm_outside.specs.Disk.{Change, IsFileSettled, IsRemovedLast, IsSettled, OnlyWaits, Step, changes_of}

-- the first segment that an opening waits for, by the place where recovery begins: recovery reads none below
abbrev pub first_waited : ℕ → ℕ
first_waited base = base / SEGMENT_WORDS

-- the last one, by the place recovered: that behind its segment, since a write over a segment's end may be cut off there
abbrev pub last_waited : ℕ → ℕ
last_waited place = place / SEGMENT_WORDS + 1

-- nothing of a file is pending, but where it was removed last: then the removal is, with what was pending before
abbrev pub IsSettledOrRemoved : List Change → Type 0
IsSettledOrRemoved changes = IsFileSettled changes ⊎ IsRemovedLast changes

-- Nothing is pending on a disk but of what an opening waits for: the slots, the segments from the first such one to the last, and removals of
-- others that were the last thing done to them.
abbrev pub IsSettledBeyond : ℕ → ℕ → List Step → Type 0
IsSettledBeyond base place steps =
    (n : ℕ) → (n < first_waited base) ⊎ (last_waited place < n) → IsSettledOrRemoved (changes_of (Segment n) steps)

-- nothing is pending of the segments from one up to below another
abbrev pub IsSettledIn : ℕ → ℕ → List Step → Type 0
IsSettledIn first end steps = (n : ℕ) → first ≤ n → n < end → IsFileSettled (changes_of (Segment n) steps)

-- Nothing was done to a disk but to wait, until nothing was pending; and then this.
pub record Settles (P : List Step → List Step → Type 0) (old new : List Step) : Type 0 where
  pub mid : List Step
  pub waits : OnlyWaits old mid
  pub settled : IsSettled mid
  pub since : P mid new

-- it was waited for some of it at most, or for all, and then this was done
abbrev pub MaySettle : (List Step → List Step → Type 0) → List Step → List Step → Type 0
MaySettle P old new = OnlyWaits old new ⊎ Settles P old new

-- Nothing was done but to wait until nothing was pending, and this is so from then on; and where nothing was pending at first, from the
-- beginning on.
abbrev pub SinceSettled : (List Step → List Step → Type 0) → List Step → List Step → Type 0
SinceSettled P old new = Settles P old new × (IsSettled old → P old new)

-- the same, where it may have been stopped while it was waited
abbrev pub OnceSettled : (List Step → List Step → Type 0) → List Step → List Step → Type 0
OnceSettled P old new = MaySettle P old new × (IsSettled old → P old new)
