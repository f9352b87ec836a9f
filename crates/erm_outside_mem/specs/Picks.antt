-- Which of the images that a crash may leave.
use Rattle.std.specs.Prelude.{ℕ, List, [], ◌∷◌, length, replicate, Bool, true, false}
use Rattle.erm_outside.specs.Disk.{Change, patched, bytes_after}
use Rattle.erm_outside.specs.Disk.Change.{Wrote, Tried, Synced, Removed}
use Rattle.erm_outside_mem.specs.declared.picks.Pick.{Pick}
use Rattle.erm_outside_mem.specs.declared.picks.Pick.TheVariants.{Nothing, All, Marks}
use Rattle.erm_outside_mem.specs.declared.picks.TheConstants.{MARK}

-- what landed of a pending write of n bytes that left some: nothing, these, or the mark n times
abbrev pub landed : Pick → List ℕ → ℕ → List ℕ
landed Nothing left n = []
landed All left n = left
landed Marks left n = replicate n MARK

-- a file after a pending removal, which landed or did not
abbrev pub removed_by : Pick → List ℕ → List ℕ
removed_by Nothing bytes = bytes
removed_by All bytes = []
removed_by Marks bytes = bytes

-- a file after a change that is pending, of which so much landed
abbrev pub played : Pick → Change → List ℕ → List ℕ
played pick (Wrote at bytes) was = patched was at (landed pick bytes (length bytes))
played pick (Tried at bytes left) was = patched was at (landed pick left (length bytes))
played pick Synced was = was
played pick Removed was = removed_by pick was

-- The image of a file that a pick names, after these changes, of which the newest is the first: what was waited for is
-- there, and of the rest landed what the pick says.
abbrev pub picked : Pick → List Change → List ℕ
picked pick [] = []
picked pick (Wrote at bytes ∷ before) = patched (picked pick before) at (landed pick bytes (length bytes))
picked pick (Tried at bytes left ∷ before) = patched (picked pick before) at (landed pick left (length bytes))
picked pick (Synced ∷ before) = bytes_after before
picked pick (Removed ∷ before) = removed_by pick (picked pick before)

-- How a note is played: whole where its file is synced after it, else as the pick says.
abbrev pub how_of : Bool → Pick → Pick
how_of true pick = pick
how_of false pick = All
