-- What a gather of a log tells that others may go on writing.
use Rattle.std.specs.Prelude.{◌≡◌, ℕ, ◌+◌, ◌^◌, ◌<◌, ◌≤◌, List, ◌++◌, take, None, IsSome}
use Rattle.erm_block.specs.declared.block.Block.{Block}
use Rattle.erm_model.specs.declared.limits.TheConstants.{RING_WORDS}
use Rattle.erm_world.specs.declared.gathered.Gathered.{Gathered}
use Rattle.erm_world.specs.declared.gathered.Gathered.TheVariants.{Empty, Unfilled, Words}
use Rattle.erm_world.specs.Log.{Log, gathered_to, place_behind, words_of}

-- what was gathered is some words, no more than there is room for, and ends at a place of 64 bits
abbrev pub Fits : Gathered → Type 0
Fits (Words at count) = (0 < count) × (count ≤ RING_WORDS) × (at + count < 2 ^ 64)
Fits g = Unit {0}

-- where some were, they may be told flushed
abbrev pub MayFlush : {S : Type 0} → (ℕ → S → Type 0) → Gathered → S → Type 0
MayFlush may (Words at count) t = may (at + count) t
MayFlush may g t = Unit {0}

-- So many words from the place flushed on were gathered of a log that was known: they are those of the blocks from there on, which are
-- behind all that were gathered before. Of the log nothing else changed but that more of it is known.
pub record SeesBlocks (l m : Log) (at count : ℕ) (words : List ℕ) : Type 0 where
  pub at_is : at ≡ l.flushed
  pub some : 0 < count
  pub front : List Block
  pub blocks : List Block
  pub flushed_is : l.flushed ≡ place_behind l.opened.at front
  pub gathered : m ≡ record l { tail = m.tail; gathered = front ++ blocks }
  pub more : (rest : List Block) × (front ++ blocks ≡ l.gathered ++ rest)
  pub words_are : take count words ≡ words_of blocks
  pub count_is : gathered_to m ≡ l.flushed + count

-- What a gather tells of a log that was known: where nothing was gathered, the same is known of it.
abbrev pub Sees : {S : Type 0} → (knows awaits : S → Log → Type 0) → Gathered → Log → List ℕ → S → Type 0
Sees knows awaits (Empty at) l words t = (at ≡ l.flushed) × knows t l
Sees knows awaits (Unfilled at) l words t = (at ≡ l.flushed) × knows t l
Sees knows awaits (Words at count) l words t = (m : Log) × awaits t m × SeesBlocks l m at count words

-- Why a gather went no further: at some moment nothing more was to gather there. Where nothing was gathered, the answer says why: the log
-- ended there, or a range that wasn't decided began there.
abbrev pub StopsBy : {S : Type 0} → (ended opened stopped : S → ℕ → S → Type 0) → Gathered → S → S → Type 0
StopsBy ended opened stopped (Empty at) s t = ended s at t
StopsBy ended opened stopped (Unfilled at) s t = opened s at t
StopsBy ended opened stopped (Words at count) s t = stopped s (at + count) t

-- of the log it is known that it isn't pinned
abbrev pub IsUnpinned : {S : Type 0} → (knows : S → Log → Type 0) → S → Type 0
IsUnpinned knows s = (l : Log) × knows s l × (l.pinned ≡ None)

-- of the log it is known that it is pinned
abbrev pub IsPinned : {S : Type 0} → (knows : S → Log → Type 0) → S → Type 0
IsPinned knows s = (l : Log) × knows s l × IsSome l.pinned
