-- Disks that may be opened again. What an image recovers to, a place of the log and the run of the last block before it, is a
-- parameter: the slots that check say where the log list begins.
use Rattle.std.specs.Prelude.{ℕ, ◌+◌, List}
use Rattle.erm_outside.specs.Disk.{Image, IsSettled, Step, contents}
use Rattle.erm_log_words.specs.Tears.{IsFresh}

-- an image may be opened: at the place that it recovers to, or behind, no block of a later run reads
abbrev pub MayOpen : (Image → ℕ → ℕ → Type 0) → Image → Type 0
MayOpen Recovers image = (at run : ℕ) → Recovers image at run → IsFresh (run + 1) image at

-- a disk is kept for an opening: nothing is pending, and what it reads may be opened
pub record IsKept (Recovers : Image → ℕ → ℕ → Type 0) (steps : List Step) : Type 0 where
  pub settled : IsSettled steps
  pub opens : MayOpen Recovers (contents steps)
