-- What was done to a disk, what its reads give, and what a crash may leave of it.
use Rattle.std.specs.Prelude.{◌≡◌, ◌==◌, ◌<◌, ◌≤◌, ◌+◌, ◌-◌, ◌⊎◌, ◌++◌, ℕ, Bool, true, false, if◌then◌else◌, List, [], ◌∷◌, length, take, drop, replicate, min, max, Option, None, Some}
use Rattle.std.specs.List.{slice_get}
use Rattle.std.specs.Option.{option_map}
use Rattle.erm_outside.specs.declared.disk.File.{File}
use Rattle.erm_outside.specs.declared.disk.File.TheVariants.{Slot0, Slot1, Segment}

-- something that was done to a file
pub data Change : Type 0 where
  -- these bytes were written from a place on
  Wrote : ℕ → List ℕ → Change
  -- a write of these bytes from a place on failed, and left those there
  Tried : ℕ → List ℕ → List ℕ → Change
  -- it was waited for what was done before to last
  Synced : Change
  -- it was removed, and is empty
  Removed : Change

-- something that was done to a disk: a change of one file
pub record Step : Type 0 where
  pub file : File
  pub change : Change

-- the bytes of each file, of which one that isn't there has none
abbrev pub Image : Type 0
Image = File → List ℕ

-- whether two files are one
abbrev pub same_file : File → File → Bool
same_file Slot0 Slot0 = true
same_file Slot1 Slot1 = true
same_file (Segment m) (Segment n) = m == n
same_file _ _ = false

-- what was done to a file, the newest first as in the list of steps
abbrev pub changes_of : File → List Step → List Change
changes_of file [] = []
changes_of file (step ∷ before) =
    if same_file step.file file then step.change ∷ changes_of file before else changes_of file before

-- these bytes stand in a file from a place on; where that is behind its end, zeros stand between
abbrev pub spliced : List ℕ → ℕ → List ℕ → List ℕ
spliced old at bytes = take at (old ++ replicate (at - length old) 0) ++ bytes ++ drop (at + length bytes) old

-- a file after a write; one of no bytes changes nothing
abbrev pub patched : List ℕ → ℕ → List ℕ → List ℕ
patched old at [] = old
patched old at (byte ∷ bytes) = spliced old at (byte ∷ bytes)

-- what reads give of a file after these changes, of which the newest is the first
abbrev pub bytes_after : List Change → List ℕ
bytes_after [] = []
bytes_after (Wrote at bytes ∷ before) = patched (bytes_after before) at bytes
bytes_after (Tried at bytes left ∷ before) = patched (bytes_after before) at left
bytes_after (Synced ∷ before) = bytes_after before
bytes_after (Removed ∷ before) = []

-- what reads give after these steps
abbrev pub contents : List Step → Image
contents steps file = bytes_after (changes_of file steps)

-- After a write of n bytes that a crash cuts short any bytes may stand in the range and past the old end. Other bytes stay.
pub record Torn (at n : ℕ) (old new : List ℕ) : Type 0 where
  pub before : (i byte : ℕ) → i < at → slice_get old i ≡ Some byte → slice_get new i ≡ Some byte
  pub behind : (i : ℕ) → at + n ≤ i → slice_get new i ≡ slice_get old i

-- what a crash may leave of a file after these changes, of which the newest is the first
abbrev pub MayBe : List Change → List ℕ → Type 0
MayBe [] left = left ≡ []
MayBe (Wrote at bytes ∷ before) left = (was : List ℕ) × MayBe before was × Torn at (length bytes) was left
MayBe (Tried at bytes rest ∷ before) left = (was : List ℕ) × MayBe before was × Torn at (max (length rest) (length bytes)) was left
MayBe (Synced ∷ before) left = left ≡ bytes_after before
MayBe (Removed ∷ before) left = (left ≡ []) ⊎ MayBe before left

-- a crash after these steps may leave this, of each file for itself
abbrev pub IsImage : List Step → Image → Type 0
IsImage steps image = (file : File) → MayBe (changes_of file steps) (image file)

-- these images have the same bytes
abbrev pub Same : Image → Image → Type 0
Same a b = (file : File) → a file ≡ b file

-- nothing of a file is pending: a crash leaves what reads give
abbrev pub IsFileSettled : List Change → Type 0
IsFileSettled changes = (left : List ℕ) → MayBe changes left → left ≡ bytes_after changes

-- nothing was done to a file, or it was waited for last
abbrev pub IsSyncedLast : List Change → Type 0
IsSyncedLast [] = Unit {0}
IsSyncedLast (Synced ∷ before) = Unit {0}
IsSyncedLast _ = ⊥

-- nothing is pending: a crash leaves of each file what reads give
abbrev pub IsSettled : List Step → Type 0
IsSettled steps = (file : File) → IsFileSettled (changes_of file steps)

-- a file was removed, and nothing was done to it since, so that this isn't waited for
abbrev pub IsRemovedLast : List Change → Type 0
IsRemovedLast (Removed ∷ before) = Unit {0}
IsRemovedLast _ = ⊥

-- no file is so
abbrev pub RemovalsLast : List Step → Type 0
RemovalsLast steps = (file : File) → IsRemovedLast (changes_of file steps) → ⊥

-- each of these steps waits
abbrev pub AllWait : List Step → Type 0
AllWait [] = Unit {0}
AllWait (step ∷ steps) = (step.change ≡ Synced) × AllWait steps

-- nothing else was done to a disk than to wait
abbrev pub OnlyWaits : List Step → List Step → Type 0
OnlyWaits old new = (more : List Step) × (new ≡ more ++ old) × AllWait more

-- each image that a crash may leave has P: after the older steps, and after each step more
abbrev pub EachImage : (Image → Type 0) → List Step → List Step → Type 0
EachImage P old [] = (image : Image) → IsImage old image → P image
EachImage P old (step ∷ more) = ((image : Image) → IsImage (step ∷ more ++ old) image → P image) × EachImage P old more

-- at each moment from the older steps to the newer ones, each image that a crash may leave has P
abbrev pub AtEachMoment : (Image → Type 0) → List Step → List Step → Type 0
AtEachMoment P old new = (more : List Step) × (new ≡ more ++ old) × EachImage P old more

-- what a disk tells before and after is in this relation, where it tells
abbrev pub Tells : (List Step → List Step → Type 0) → Option (List Step) → Option (List Step) → Type 0
Tells P None after = after ≡ None
Tells P (Some old) after = (new : List Step) × (after ≡ Some new) × P old new

-- what a disk tells after one change more of a file, as far as it tells
abbrev pub Does : File → Change → Option (List Step) → Option (List Step) → Type 0
Does file change before after = after ≡ option_map (λ steps. record { file = file; change = change } ∷ steps) before

-- a write that failed did nothing, or left some bytes in the range
abbrev pub MayTry : File → ℕ → List ℕ → Option (List Step) → Option (List Step) → Type 0
MayTry file at bytes before after =
    (after ≡ before) ⊎ ((left : List ℕ) × (length left ≤ length bytes) × Does file (Tried at bytes left) before after)

-- n bytes were read into a buffer: those of the file from a place on, as many as there are and as fit
pub record Reads (bytes : List ℕ) (at n : ℕ) (old new : List ℕ) : Type 0 where
  pub count : n ≡ min (length bytes - at) (length old)
  pub read : new ≡ take n (drop at bytes) ++ drop n old

-- the least segment at or above a number that has bytes, or that there is none
abbrev pub IsNextSegment : Image → ℕ → Option ℕ → Type 0
IsNextSegment image from None = (n : ℕ) → from ≤ n → image (Segment n) ≡ []
IsNextSegment image from (Some n) =
    (from ≤ n) × (0 < length (image (Segment n))) × ((m : ℕ) → from ≤ m → m < n → image (Segment m) ≡ [])
