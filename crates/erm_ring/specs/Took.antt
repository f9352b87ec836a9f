-- The steps of a block's words and of a flush turn, the last one first, with the words that they found, and the books in between.
use Rattle.std.specs.Prelude.{◌≡◌, ◌⊎◌, ℕ, zero, suc, ◌+◌, ◌<◌, ◌≤◌, List, [], ◌∷◌, slice_index}
use Rattle.erm_machine.specs.declared.event.Kind.{Kind}
use Rattle.erm_machine.specs.declared.event.Kind.TheVariants as kind
use Rattle.erm_machine.specs.declared.event.TailUse.TheVariants as purpose
use Rattle.erm_machine.specs.declared.limits.TheConstants.{FLUSH_SEAT, RING_WORDS}
use Rattle.erm_model.specs.RowTransaction.{Law}
use Rattle.erm_rule.specs.declared.view.Book.{Book}
use Rattle.erm_rule.specs.Steps.{Booked}
use Rattle.erm_rule.specs.Went.{Took, Went}
use Rattle.erm_world.specs.declared.gathered.Gathered.{Gathered}
use Rattle.erm_world.specs.declared.gathered.Gathered.TheVariants.{Empty, Unfilled, Words}

-- a store of a word of the own block behind its header
abbrev pub IsFillStep : Kind → ℕ → Type 0
IsFillStep (kind.StoreRing at value) found = Unit {0}
IsFillStep k found = ⊥

-- a word of the ring is cleared
abbrev pub IsClearStep : Kind → ℕ → Type 0
IsClearStep (kind.ClearRing at) found = Unit {0}
IsClearStep k found = ⊥

-- The place flushed was loaded, this one, and then words of the ring were cleared.
pub record TookClears (law : Law) (from : ℕ) (b e : Book) : Type 0 where
  pub first : Book
  pub load : Booked law b FLUSH_SEAT kind.LoadFlushed from first
  pub clears : Went law FLUSH_SEAT IsClearStep first e

-- CLEAR. Then the new place was stored.
pub record TookClear (law : Law) (to : ℕ) (b e : Book) : Type 0 where
  pub from : ℕ
  pub cleared : Book
  pub clears : TookClears law from b cleared
  pub word : ℕ
  pub step : Booked law cleared FLUSH_SEAT (kind.StoreFlushed to) word e

-- loads of so many words of the ring from a place on, which found the first of these
abbrev pub ring_steps : ℕ → List ℕ → ℕ → List (Kind × ℕ)
ring_steps from words zero = []
ring_steps from words (suc n) = (kind.LoadRing (from + n), slice_index words n) ∷ ring_steps from words n

-- The log's end was loaded, this one, and the place flushed, and so many words of the ring from there on.
pub record TookWords (law : Law) (tail from count : ℕ) (words : List ℕ) (b e : Book) : Type 0 where
  pub began : Book
  pub begins : Took law FLUSH_SEAT ((kind.LoadFlushed, from) ∷ (kind.LoadTail purpose.Gather, tail) ∷ []) b began
  pub loads : Took law FLUSH_SEAT (ring_steps from words count) began e

-- There it stopped: at that end of the log, at the ring's, or at a header that was 0.
abbrev pub TookGatherEnd : Law → (tail from count : ℕ) → Book → Book → Type 0
TookGatherEnd law tail from count b e =
    (((tail ≤ from + count) ⊎ (count ≡ RING_WORDS)) × (e ≡ b)) ⊎ ((from + count < tail) × (count < RING_WORDS) × Booked law b FLUSH_SEAT (kind.LoadRing (from + count)) 0 e)

pub record TookGathered (law : Law) (tail from count : ℕ) (words : List ℕ) (b e : Book) : Type 0 where
  pub few : count ≤ RING_WORDS
  pub gathered : Book
  pub loads : TookWords law tail from count words b gathered
  pub stop : TookGatherEnd law tail from count gathered e

-- GATHER. Nothing was gathered where the log ended at the place flushed, or a header of 0 stood there.
abbrev pub TookGather : Law → Gathered → List ℕ → Book → Book → Type 0
TookGather law (Empty at) words b e = (tail : ℕ) × (tail ≤ at) × TookGathered law tail at 0 words b e
TookGather law (Unfilled at) words b e = (tail : ℕ) × (at < tail) × TookGathered law tail at 0 words b e
TookGather law (Words at count) words b e = (tail : ℕ) × (0 < count) × TookGathered law tail at count words b e
