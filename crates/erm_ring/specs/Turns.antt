-- What a turn of the flush seat asks of its part, and what it leaves of a pass's book: a gather, and the clearing of what was gathered.
use Rattle.std.specs.Prelude.{◌≡◌, ◌≢◌, ◌⊎◌, ℕ, ◌+◌, ◌<◌, ◌≤◌, true, List, [], take, max, IsSome}
use Rattle.erm_machine.specs.declared.attempt.Attempt.{Attempt}
use Rattle.erm_machine.specs.declared.limits.TheConstants.{FLUSH_SEAT, RING_WORDS}
use Rattle.erm_machine.specs.declared.part.Flushing.TheVariants as flushing
use Rattle.erm_machine.specs.declared.part.Part.{Part}
use Rattle.erm_machine.specs.Core.{Core}
use Rattle.erm_machine.specs.Flushing.{size_of, with_flushing}
use Rattle.erm_machine.specs.Life.{is_between}
use Rattle.erm_machine.specs.Seat.{saw}
use Rattle.erm_core_blocks.specs.Spelled.{AreSpelled}
use Rattle.erm_core_flush.specs.Turns.{Blocks, IsOpenAt, words_of}
use Rattle.erm_rule.specs.declared.view.Book.{Book}
use Rattle.erm_rule.specs.declared.view.View.{View}
use Rattle.erm_rule.specs.Books.{IsAfter, IsBookOf, IsLater, WasSeen}
use Rattle.erm_rule.specs.Hands.{IsKnown}
use Rattle.erm_rule.specs.Views.{part_in, part_of, with_part}
use Rattle.erm_world.specs.declared.gathered.Gathered.{Gathered}
use Rattle.erm_world.specs.declared.gathered.Gathered.TheVariants.{Empty, Unfilled, Words}

-- the pass has the flush seat, which is between two turns, or between two blocks of a gather
pub record MayGather (v : View) : Type 0 where
  pub held : IsSome (part_in v FLUSH_SEAT)
  pub between : is_between (part_of v FLUSH_SEAT).flushing ≡ true

-- the part of a flush seat that has loaded this tail, and gathered whole blocks from one place up to another
abbrev pub gathered_part : (tail from to : ℕ) → Part → Part
gathered_part tail from to x = record (saw tail x) { flushing = flushing.Gathers tail from to to to; gathered_to = max x.gathered_to to }

-- In a state of the book, and this is that state or a later one, the log ended at this tail, and this was the place flushed.
pub record Began (b : Book) (tail from : ℕ) (c : Core) : Type 0 where
  pub state : Core
  pub is : IsBookOf b state
  pub tail_is : state.shared.tail ≡ tail
  pub flushed_is : state.shared.flushed ≡ from
  pub later : IsLater state c

-- between two books a state was met in which a range that wasn't decided began at this place
abbrev pub WasOpen : Book → ℕ → Book → Type 0
WasOpen b place e = WasSeen b (λ s. IsOpenAt s.seats place) e

-- decided ranges lie end to end from one place to another, and these are the words of their blocks
pub record HasBlocks (from to : ℕ) (words : List ℕ) (c : Core) : Type 0 where
  pub ranges : List Attempt
  pub blocks : Blocks c.seats from ranges to
  pub words_are : words ≡ words_of ranges

-- The log was gathered from one place up to another. The first was the place flushed when the log ended at this tail; the words are those
-- of all blocks between, whatever state the book is one of, and the blocks are spelled in the state that is known; and the gather stopped
-- at that tail, at the ring's end, or where a range that wasn't decided began.
pub record DidGather (b : Book) (tail from to : ℕ) (words : List ℕ) (e : Book) : Type 0 where
  pub view_is : e.view ≡ with_part FLUSH_SEAT (gathered_part tail from to (part_of b.view FLUSH_SEAT)) b.view
  pub known : IsKnown e.view
  pub is : IsBookOf e known.core
  pub spelled : AreSpelled known.core
  pub began : (c : Core) → IsBookOf e c → Began b tail from c
  pub whole : (c : Core) → IsBookOf e c → HasBlocks from to words c
  pub stops : (tail ≤ to) ⊎ (to ≡ from + RING_WORDS) ⊎ WasOpen b to e

-- What a gather answers: nothing only where the log ended at the place flushed, or a range that wasn't decided began there.
abbrev pub Gathers : Gathered → Book → List ℕ → Book → Type 0
Gathers (Empty at) b words e = DidGather b at at at [] e
Gathers (Unfilled at) b words e = (tail : ℕ) × DidGather b tail at at [] e × (at < tail) × WasOpen b at e
Gathers (Words at count) b words e = (tail : ℕ) × DidGather b tail at (at + count) (take count words) e × (0 < count)

-- the pass has the flush seat, which has gathered some whole blocks, up to this place
pub record MayClear (to : ℕ) (v : View) : Type 0 where
  pub held : IsSome (part_in v FLUSH_SEAT)
  pub tail : ℕ
  pub from : ℕ
  pub gathered : (part_of v FLUSH_SEAT).flushing ≡ flushing.Gathers tail from to to to
  pub some : from < to

-- This is the place flushed, in whatever state the book is one of; so the ring has no word below it.
pub record DidClear (b : Book) (to : ℕ) (e : Book) : Type 0 where
  pub view_is : e.view ≡ with_part FLUSH_SEAT (with_flushing flushing.Still (part_of b.view FLUSH_SEAT)) b.view
  pub known : IsKnown e.view
  pub is : IsBookOf e known.core
  pub flushed : (c : Core) → IsBookOf e c → c.shared.flushed ≡ to
  pub goes : IsAfter b e

-- THE NEXT WORD of a gather at this place, of a block up to `end`, or a header: where the block ends.
pub record NextIs (at end word to : ℕ) : Type 0 where
  pub middle : at < end → to ≡ end
  pub header : end ≤ at → (word ≢ 0) × (to ≡ at + size_of word)
