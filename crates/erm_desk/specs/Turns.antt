-- What the calls of a turn of the flush seat do to its pass's book.
use Rattle.std.specs.Prelude.{◌≡◌, ℕ, true, List}
use Rattle.erm_entries.specs.Took.{TookWait}
use Rattle.erm_machine.specs.declared.event.Kind.{Kind}
use Rattle.erm_machine.specs.declared.event.Kind.TheVariants as kind
use Rattle.erm_machine.specs.declared.limits.TheConstants.{FLUSH_SEAT}
use Rattle.erm_machine.specs.Seat.{is_active}
use Rattle.erm_model.specs.RowTransaction.{Law}
use Rattle.erm_pin.specs.Pins.{DidUnpin, HasLooked, IsPinned}
use Rattle.erm_pin.specs.Took.{TookRow}
use Rattle.erm_ring.specs.Took.{TookClear, TookGather}
use Rattle.erm_ring.specs.Turns.{DidClear, Gathers}
use Rattle.erm_rule.specs.declared.view.Book.{Book}
use Rattle.erm_rule.specs.declared.view.View.{View}
use Rattle.erm_rule.specs.Steps.{Booked}
use Rattle.erm_rule.specs.Views.{part_of}
use Rattle.erm_rule.specs.Went.{IsLoadStep, Took, Went}
use Rattle.erm_seats.specs.Took.{TookBegin}
use Rattle.erm_world.specs.declared.gathered.Gathered.{Gathered}
use Rattle.erm_world.specs.declared.gathered.SeatWait.{SeatWait}

-- what a gather answered, and its steps
pub record DidLook (law : Law) (b : Book) (g : Gathered) (words : List ℕ) (e : Book) : Type 0 where
  pub gathers : Gathers g b words e
  pub took : TookGather law g words b e

-- what was gathered was cleared, up to this place, and it was stored as the place flushed; and the steps of that
pub record DidStore (law : Law) (b : Book) (end : ℕ) (e : Book) : Type 0 where
  pub clears : DidClear b end e
  pub took : TookClear law end b e

-- where the flush seat has a pin, it is at this place
abbrev pub IsPinAt : ℕ → View → Type 0
IsPinAt place v = is_active (part_of v FLUSH_SEAT).place ≡ true → (part_of v FLUSH_SEAT).current.begin ≡ place

-- the log's end was pinned, and the steps of that
pub record DidPin (law : Law) (b : Book) (place : ℕ) (e : Book) : Type 0 where
  pub took : TookBegin law FLUSH_SEAT place b e
  pub pinned : IsPinned e.view
  pub place_is : (part_of e.view FLUSH_SEAT).current.begin ≡ place

-- a row was read as of the pin, and the steps of that
pub record DidRead (law : Law) (b : Book) (oid : ℕ) (row : List ℕ) (e : Book) : Type 0 where
  pub place : ℕ
  pub place_is : (part_of b.view FLUSH_SEAT).current.begin ≡ place
  pub took : TookRow law oid place row b e
  pub looked : HasLooked b.view e.view
  pub loads : Went law FLUSH_SEAT IsLoadStep b e

-- A row isn't known yet as of the pin: the object's entry was of this seat, whose state word was this one, of a transaction that is sealing,
-- or is sealed below the pin; and the steps of that.
pub record DidWait (law : Law) (b : Book) (oid : ℕ) (wait : SeatWait) (e : Book) : Type 0 where
  pub place : ℕ
  pub place_is : (part_of b.view FLUSH_SEAT).current.begin ≡ place
  pub took : TookWait law FLUSH_SEAT oid place (record { seat = wait.seat; seen = wait.seen }) b e
  pub looked : HasLooked b.view e.view
  pub loads : Went law FLUSH_SEAT IsLoadStep b e

-- the pin was ended, and the step of that
pub record EndsPin (law : Law) (b e : Book) : Type 0 where
  pub found : ℕ
  pub step : Booked law b FLUSH_SEAT (kind.StoreBegin 0) found e
  pub unpins : DidUnpin b.view e.view

-- some steps of the flush seat lead from one book to another
abbrev pub FlushSteps : Law → Book → Book → Type 0
FlushSteps law b e = (steps : List (Kind × ℕ)) × Took law FLUSH_SEAT steps b e
