-- What was done to a disk that words of the log were written to.
use Rattle.std.specs.Prelude.{◌≡◌, ℕ, ◌+◌, ◌*◌, ◌%◌, ◌≤◌, List, [], ◌∷◌, ◌++◌, length, slice_range, Option}
use Rattle.erm_bytes.specs.declared.bytes.TheConstants.{WORD_BYTES}
use Rattle.erm_bytes.specs.Bytes.{bytes_of}
use Rattle.erm_log_words.specs.Words.{Has, Spares}
use Rattle.erm_model.specs.declared.limits.TheConstants.{SEGMENT_WORDS}
use Rattle.erm_outside.specs.declared.disk.File.{File}
use Rattle.erm_outside.specs.Disk.{Change, IsSettled, Step, Tells, contents}
use Rattle.erm_outside.specs.Disk.Change.{Wrote, Tried, Synced, Removed}
use Rattle.erm_segment.specs.Place.{place_of}

-- bytes written at a byte of a file are `count` words of these from `from` on, which lie in one segment; the first of all
-- is word `at` of the log
pub record IsPiece (at : ℕ) (words : List ℕ) (file : File) (byte : ℕ) (bytes : List ℕ) : Type 0 where
  pub from : ℕ
  pub count : ℕ
  pub within : from + count ≤ length words
  pub place : (file, byte) ≡ place_of (at + from)
  pub one : (at + from) % SEGMENT_WORDS + count ≤ SEGMENT_WORDS
  pub bytes_are : bytes ≡ slice_range (bytes_of words) (WORD_BYTES * from) (WORD_BYTES * (from + count))

-- what is done writes some of these words at their place in the log, or waits
abbrev pub WritesWords : ℕ → List ℕ → File → Change → Type 0
WritesWords at words file (Wrote byte bytes) = IsPiece at words file byte bytes
WritesWords at words file (Tried byte bytes left) = IsPiece at words file byte bytes × (length left ≤ length bytes)
WritesWords at words file Synced = Unit {0}
WritesWords at words file Removed = ⊥

-- each of these steps does
abbrev pub AllWriteWords : ℕ → List ℕ → List Step → Type 0
AllWriteWords at words [] = Unit {0}
AllWriteWords at words (step ∷ steps) = WritesWords at words step.file step.change × AllWriteWords at words steps

-- nothing else was done to a disk than to write some of these words at their place in the log, and to wait
abbrev pub OnlyWrites : ℕ → List ℕ → Option (List Step) → Option (List Step) → Type 0
OnlyWrites at words before after = Tells (λ old new. (more : List Step) × (new ≡ more ++ old) × AllWriteWords at words more) before after

-- nothing is pending, the log has these words from a place on, and no other place changed
pub record Holds (at : ℕ) (words : List ℕ) (old new : List Step) : Type 0 where
  pub settled : IsSettled new
  pub has : Has (contents new) at words
  pub others : Spares at (at + length words) (contents old) (contents new)

-- the same, as far as the disk tells
abbrev pub Lasts : ℕ → List ℕ → Option (List Step) → Option (List Step) → Type 0
Lasts at words before after = Tells (Holds at words) before after
