-- Steps of the flush seat: gather, and what it changes once the words gathered are on the disk.
use Rattle.std.specs.Prelude.{ℕ, ◌+◌, ◌-◌, ◌/◌, ◌%◌, not, ◌&&◌, ◌||◌, ◌==◌, nat_lt, if◌then◌else◌, max, Option, Some, None}
use Rattle.erm_model.specs.declared.header.TheConstants.{RUN_UNIT, SIZE_UNIT}
use Rattle.erm_machine.specs.declared.limits.TheConstants.{LOG_END, RING_WORDS}
use Rattle.erm_machine.specs.declared.part.Flushing.{Flushing}
use Rattle.erm_machine.specs.declared.part.Flushing.TheVariants as flushing
use Rattle.erm_machine.specs.declared.part.Part.{Part}
use Rattle.erm_machine.specs.Settling.{load_flushed_to_settle}
use Rattle.erm_machine.specs.Seat.{when, is_vacant}

-- how far the flush seat has come is now this
abbrev pub with_flushing : Flushing → Part → Part
with_flushing f x = record x { flushing = f }

-- GATHER begins at the place below which all is synced. A session loads that place to settle, or to see what is durable.
abbrev pub load_flushed : ℕ → Part → Flushing → Option Part
load_flushed found x (flushing.Tail tail) = Some (with_flushing (flushing.Gathers tail found found found found) x)
load_flushed found x _ = when (not (is_vacant x.place)) (load_flushed_to_settle found x)

-- the size that a header spells
abbrev pub size_of : ℕ → ℕ
size_of header = header / SIZE_UNIT % (RUN_UNIT / SIZE_UNIT)

-- a word of the block in hand, which may be its last: then the block is gathered, if it wasn't before
abbrev pub gathered_word : (tail from block next end : ℕ) → Part → Part
gathered_word tail from block next end x =
    if (next + 1) == end
    then record x { flushing = flushing.Gathers tail from end end end; gathered_to = max x.gathered_to end }
    else with_flushing (flushing.Gathers tail from block (next + 1) end) x

-- GATHER: block by block below the tail loaded and within the ring, up to a header that is 0
abbrev pub load_ring : ℕ → ℕ → Part → Flushing → Option Part
load_ring at found x (flushing.Gathers tail from block next end) =
    when ((at == next) && nat_lt next LOG_END && (nat_lt next end || (nat_lt next tail && nat_lt (next - from) RING_WORDS)))
    (if nat_lt next end then gathered_word tail from block next end x
    else if found == 0 then x
    else gathered_word tail from next next (next + size_of found) x)
load_ring at found x _ = None

-- FLUSH: the words gathered are cleared in the ring, once a block is gathered and between two, and then flushed is stored
abbrev pub clear_ring : ℕ → Part → Flushing → Option Part
clear_ring at x (flushing.Gathers tail from block next end) =
    when ((at == from) && nat_lt from LOG_END && (next == end) && nat_lt from next) (with_flushing (flushing.Clears (from + 1) next) x)
clear_ring at x (flushing.Clears next to) = when ((at == next) && nat_lt next LOG_END && nat_lt next to) (with_flushing (flushing.Clears (next + 1) to) x)
clear_ring at x _ = None

abbrev pub store_flushed : ℕ → Part → Flushing → Option Part
store_flushed value x (flushing.Clears next to) = when ((next == to) && (value == to)) (with_flushing flushing.Still x)
store_flushed value x _ = None
