-- What is done to a disk where a slot is written and segments of the log are removed.
use Rattle.std.specs.Prelude.{◌≡◌, ◌<◌, ◌≤◌, ◌⊎◌, ℕ, List, [], ◌∷◌, length, max, Option, Some, None}
use Rattle.std.specs.List.{All, AllPairs}
use Rattle.erm_outside.specs.declared.disk.File.{File}
use Rattle.erm_outside.specs.declared.disk.File.TheVariants.{Segment}
use Rattle.erm_outside.specs.Disk.{contents, Change, Image, Step}
use Rattle.erm_outside.specs.Disk.Change.{Wrote, Tried, Synced, Removed}

-- one change more of a file
abbrev pub did : File → Change → List Step → List Step
did file change steps = record { file = file; change = change } ∷ steps

-- the steps after these bytes were written to a slot's file, and waited for
abbrev pub slot_written : File → List ℕ → List Step → List Step
slot_written file slot steps = did file Synced (did file (Wrote 0 slot) steps)

-- that was done
abbrev pub WritesSlot : File → List ℕ → List Step → List Step → Type 0
WritesSlot file slot old new = new ≡ slot_written file slot old

-- it was begun: nothing was done, or a write that failed left some bytes, or what was written wasn't waited for
abbrev pub WritesPart : File → List ℕ → List Step → List Step → Type 0
WritesPart file slot old new =
    (new ≡ old) ⊎ (((left : List ℕ) × (length left ≤ length slot) × (new ≡ did file (Tried 0 slot left) old)) ⊎ (new ≡ did file (Wrote 0 slot) old))

-- a segment was removed, and the removal was waited for
abbrev pub RemovesOne : ℕ → List Step → List Step → Type 0
RemovesOne segment old new = new ≡ did (Segment segment) Synced (did (Segment segment) Removed old)

-- that was begun: nothing was done, or the removal wasn't waited for
abbrev pub StartsRemoval : ℕ → List Step → List Step → Type 0
StartsRemoval segment old new = (new ≡ old) ⊎ (new ≡ did (Segment segment) Removed old)

-- the steps after these segments were removed, of which the last is the first in the list, each waited for before the next
abbrev pub removals : List ℕ → List Step → List Step
removals [] steps = steps
removals (segment ∷ before) steps = did (Segment segment) Synced (did (Segment segment) Removed (removals before steps))

-- the least segment in a range that has bytes, or that there is none
abbrev pub IsNextBelow : Image → ℕ → ℕ → Option ℕ → Type 0
IsNextBelow image from end None = (n : ℕ) → from ≤ n → n < end → image (Segment n) ≡ []
IsNextBelow image from end (Some n) =
    (from ≤ n) × (n < end) × (0 < length (image (Segment n))) × ((m : ℕ) → from ≤ m → m < n → image (Segment m) ≡ [])

-- segments of a range that had bytes, the greatest first
pub record AreThere (first end : ℕ) (steps : List Step) (segments : List ℕ) : Type 0 where
  pub within : All (λ segment. (first ≤ segment) × (segment < end)) segments
  pub descending : AllPairs (λ a b. b < a) segments
  pub there : All (λ segment. 0 < length (contents steps (Segment segment))) segments

-- those segments of a range that had bytes were removed, the least first, each waited for before the next
pub record RemovesAll (first end : ℕ) (old new : List Step) : Type 0 where
  pub segments : List ℕ
  pub are : AreThere first end old segments
  pub steps : new ≡ removals segments old
  pub gone : (n : ℕ) → first ≤ n → n < end → contents new (Segment n) ≡ []

-- The first of them were: all of those below a place of the range; and of the next one the removal may have been begun.
pub record RemovesPart (first end : ℕ) (old new : List Step) : Type 0 where
  pub from : ℕ
  pub low : first ≤ from
  pub most : from ≤ max first end
  pub mid : List Step
  pub all : RemovesAll first from old mid
  pub part : (new ≡ mid) ⊎ ((segment : ℕ) × IsNextBelow (contents mid) from end (Some segment) × (new ≡ did (Segment segment) Removed mid))

-- a slot was written and waited for, and then the segments of a range were removed
abbrev pub SavesAll : File → List ℕ → ℕ → ℕ → List Step → List Step → Type 0
SavesAll file slot first end old new = RemovesAll first end (slot_written file slot old) new

-- that was begun: no segment is removed before the slot was waited for
abbrev pub SavesPart : File → List ℕ → ℕ → ℕ → List Step → List Step → Type 0
SavesPart file slot first end old new = WritesPart file slot old new ⊎ RemovesPart first end (slot_written file slot old) new
