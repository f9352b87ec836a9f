-- The words of the log in an image of a disk.
use Rattle.std.specs.Int.{w64, from_le_bytes}
use Rattle.std.specs.Prelude.{◌≡◌, ℕ, zero, suc, ◌+◌, ◌-◌, ◌*◌, ◌/◌, ◌%◌, ◌<◌, ◌≤◌, ◌==◌, if◌then◌else◌, List, [], ◌∷◌, length, take, drop, slice_index, Option, Some, None}
use Rattle.erm_bytes.specs.declared.bytes.TheConstants.{WORD_BYTES}
use Rattle.erm_model.specs.declared.limits.TheConstants.{LOG_END, SEGMENT_WORDS}
use Rattle.erm_outside.specs.declared.disk.File.TheVariants.{Slot0, Slot1, Segment}
use Rattle.erm_outside.specs.Disk.{Image}

-- the word that eight bytes spell, if there are as many
abbrev pub spelled_word : List ℕ → Option ℕ
spelled_word bytes = if length bytes == 8 then Some (from_le_bytes w64 bytes) else None

-- the word that a file has at a byte, if it is long enough
abbrev pub word_in : List ℕ → ℕ → Option ℕ
word_in file at = spelled_word (take 8 (drop at file))

-- a word of the log, if it is there
unfoldable pub word_at : Image → ℕ → Option ℕ
word_at image p = word_in (image (Segment (p / SEGMENT_WORDS))) (WORD_BYTES * (p % SEGMENT_WORDS))

-- a word and those behind it, if it is there
abbrev pub and_then : Option ℕ → List ℕ → List ℕ
and_then None words = []
and_then (Some word) words = word ∷ words

-- the words of the log from a place on, up to the first that isn't there, and at most n
abbrev pub words_from : Image → ℕ → ℕ → List ℕ
words_from image at zero = []
words_from image at (suc n) = and_then (word_at image at) (words_from image (at + 1) n)

-- the words of the log from a place on, up to the first that isn't there
unfoldable pub log_words : Image → ℕ → List ℕ
log_words image at = words_from image at (LOG_END - at)

-- the log has these words from a place on
abbrev pub Has : Image → ℕ → List ℕ → Type 0
Has image at words = (k : ℕ) → k < length words → word_at image (at + k) ≡ Some (slice_index words k)

-- the words of the log from one place up to another may differ; those behind are the same, those before that were there
-- are there, and the slots are the same
pub record Spares (from to : ℕ) (old new : Image) : Type 0 where
  pub slot0 : new Slot0 ≡ old Slot0
  pub slot1 : new Slot1 ≡ old Slot1
  pub before : (p word : ℕ) → p < from → word_at old p ≡ Some word → word_at new p ≡ Some word
  pub behind : (p : ℕ) → to ≤ p → word_at new p ≡ word_at old p
