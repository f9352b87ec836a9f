-- A turn of the flush seat: its next step, what it finds, and how much is left.
use Rattle.std.specs.Prelude.{◌≡◌, ◌≢◌, ◌⊎◌, ℕ, ◌+◌, ◌-◌, ◌<◌, ◌==◌, if◌then◌else◌, List, [], ◌∷◌, ◌++◌, Some}
use Rattle.erm_model.specs.Member.{◌∈◌}
use Rattle.erm_machine.specs.declared.attempt.Attempt.{Attempt}
use Rattle.erm_machine.specs.declared.attempt.Decision.TheVariants.{Undecided}
use Rattle.erm_machine.specs.declared.event.Kind.{Kind}
use Rattle.erm_machine.specs.declared.event.Kind.TheVariants as kind
use Rattle.erm_machine.specs.declared.limits.TheConstants.{FLUSH_SEAT, RING_WORDS}
use Rattle.erm_machine.specs.declared.part.Flushing.{Flushing}
use Rattle.erm_machine.specs.declared.part.Flushing.TheVariants as flushing
use Rattle.erm_machine.specs.declared.part.Part.{Part}
use Rattle.erm_machine.specs.Core.{Core}
use Rattle.erm_machine.specs.Facts.{all_of}
use Rattle.erm_machine.specs.Flushing.{size_of}
use Rattle.erm_machine.specs.Log.{block_word, ring_at}
use Rattle.erm_machine.specs.Step.{after_event}

-- how far the flush seat has come
abbrev pub turn_of : Core → Flushing
turn_of c = (c.seats FLUSH_SEAT).flushing

-- the flush seat's step is taken, and leads to there
pub record Turns (c : Core) (k : Kind) (to : Flushing) : Type 0 where
  pub after : Core
  pub takes : after_event c FLUSH_SEAT k ≡ Some after
  pub leads : turn_of after ≡ to

-- a decided transaction with a range, of some seat
pub record IsDecidedRange (seats : ℕ → Part) (t : Attempt) : Type 0 where
  pub seat : ℕ
  pub stands : t ∈ all_of (seats seat)
  pub drawn : 0 < t.stamp
  pub decided : t.decision ≢ Undecided

-- the log's word at a place, where its range is decided
pub record LogWord (seats : ℕ → Part) (place word : ℕ) : Type 0 where
  pub holder : Attempt
  pub decided : IsDecidedRange seats holder
  pub at : ℕ
  pub within : at < holder.size
  pub place_is : holder.stamp + at ≡ place
  pub word_is : block_word holder at ≡ word

-- a range that isn't decided begins there
pub record IsOpenAt (seats : ℕ → Part) (place : ℕ) : Type 0 where
  pub seat : ℕ
  pub holder : Attempt
  pub stands : holder ∈ all_of (seats seat)
  pub drawn : 0 < holder.stamp
  pub starts : holder.stamp ≡ place
  pub undecided : holder.decision ≡ Undecided

-- where a gather stands once the word at `next` is loaded, of the block from `block` to `end`
abbrev pub after_word : (tail from block next end : ℕ) → Flushing
after_word tail from block next end = if (next + 1) == end then flushing.Gathers tail from end end end else flushing.Gathers tail from block (next + 1) end

-- a gather has a word to load: in the middle of a block, or below the tail loaded and within the ring
abbrev pub MayGather : (tail from next end : ℕ) → Type 0
MayGather tail from next end = (next < end) ⊎ ((next < tail) × (next < from + RING_WORDS))

-- how many words a gather has ahead at most
abbrev pub left_of : Flushing → ℕ
left_of (flushing.Gathers tail from block next end) = tail - next
left_of turn = 0

-- A gather goes on: it loads the log's word there, which isn't 0 where it is a header, and less is left.
pub record GathersOn (c : Core) (tail from block next end : ℕ) : Type 0 where
  pub to : Flushing
  pub on : Turns c (kind.LoadRing next) to
  pub word : LogWord c.seats next (ring_at c.shared next)
  pub middle : next < end → to ≡ after_word tail from block next end
  pub header : next ≡ end → (ring_at c.shared next ≢ 0) × (to ≡ after_word tail from next next (next + size_of (ring_at c.shared next)))
  pub nearer : left_of to < left_of (turn_of c)

-- A gather is at its end: it loads a header that is 0, of a range that isn't decided, and stays where it is.
pub record GathersNoMore (c : Core) (next end : ℕ) : Type 0 where
  pub stays : Turns c (kind.LoadRing next) (turn_of c)
  pub between : next ≡ end
  pub zero : ring_at c.shared next ≡ 0
  pub unsettled : IsOpenAt c.seats next

-- decided ranges lie end to end from one place to another
abbrev pub Blocks : (ℕ → Part) → ℕ → List Attempt → ℕ → Type 0
Blocks seats from [] to = from ≡ to
Blocks seats from (t ∷ ts) to = IsDecidedRange seats t × (t.stamp ≡ from) × Blocks seats (from + t.size) ts to

-- the words of blocks, one behind another
abbrev pub words_of : List Attempt → List ℕ
words_of [] = []
words_of (t ∷ ts) = (t.header ∷ t.block) ++ words_of ts
