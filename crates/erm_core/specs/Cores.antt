-- What the running machine's state is, as the definitions have it.
use Rattle.std.specs.Prelude.{◌≡◌, ℕ, ◌+◌, ◌^◌, ◌<◌, List, map, slice_index, slice_index_or, length, Option, None, if◌then◌else◌, []}
use Rattle.erm_machine.specs.declared.event.Kind.{Kind}
use Rattle.erm_machine.specs.declared.event.Kind.TheVariants as kind
use Rattle.erm_machine.specs.declared.part.Part.{Part}
use Rattle.erm_machine.specs.declared.place.Place.TheVariants.{Vacant, Idle}
use Rattle.erm_machine.specs.declared.version.Version.{Version}
use Rattle.erm_machine.specs.Core.{Object, Shared, Core, no_object, fresh_part, opened_object, is_taken}
use Rattle.erm_machine.specs.Step.{shared_after, with_object, installed, added}
use Rattle.erm_machine.specs.Seat.{end_of}
use Rattle.erm_kept.specs.declared.object.ObjectState.{ObjectState}
use Rattle.erm_seat.specs.declared.seat.SeatState.{SeatState}
use Rattle.erm_core.specs.declared.state.State.{State}
use Rattle.erm_kept.specs.Objects.{object_of}
use Rattle.erm_seat.specs.Parts.{part_of}
use Rattle.erm_core.specs.Seats.{promised_in, AreNumbered}

-- the objects by their numbers
abbrev pub objects_of : List ObjectState → ℕ → Object
objects_of os = λ oid. slice_index_or (map object_of os) oid no_object

-- the seats' parts by their numbers, the others vacant
abbrev pub parts_of : ℕ → ℕ → List SeatState → ℕ → Part
parts_of run opening xs = λ p. slice_index_or (map part_of xs) p (fresh_part Vacant run opening)

-- what the seats share
abbrev pub shared_of : State → Shared
shared_of s = record {
  opening = s.opening;
  run = s.run;
  first = s.first;
  cell_limit = s.cell_limit;
  tail = s.tail;
  log = s.log.items;
  flushed = s.flushed;
  objects_drawn = s.objects_drawn;
  cells_drawn = s.cells_drawn;
  objects = objects_of s.objects.items;
  ring = λ at. slice_index s.ring.items at;
}

-- the whole state
abbrev pub core_of : State → Core
core_of s = record { shared = shared_of s; seats = parts_of s.run s.opening s.seats.items }

-- What the seats share after a step of this kind, where an install adds this version.
abbrev pub shared_with : ℕ → Kind → ℕ → Option Version → Shared → Shared
shared_with seat (kind.Install oid head) found v s = with_object oid (installed head v (s.objects oid)) s
shared_with seat k found v s = shared_after seat k found (fresh_part Vacant 0 0) s

-- the version that a step of this kind adds
abbrev pub added_in : Kind → Part → Option Version
added_in (kind.Install oid head) x = added head x (end_of x.task)
added_in k x = None

-- a range is drawn at the tail that was found, and ends below 2 ^ 64
abbrev pub DrawFits : State → Kind → ℕ → Type 0
DrawFits s (kind.AddTail size) found = (found ≡ s.tail) × (s.tail + size < 2 ^ 64)
DrawFits s k found = Unit {0}

-- rows by the numbers of their objects
abbrev pub rows_of : List (List ℕ) → ℕ → List ℕ
rows_of rows = λ oid. slice_index_or rows oid []

-- the objects are opened with these rows
abbrev pub AreOpened : List ObjectState → List (List ℕ) → Type 0
AreOpened os rows = (oid : ℕ) → oid < length os → slice_index_or (map object_of os) oid no_object ≡ opened_object (λ k. slice_index_or rows k []) oid

-- the seats have done nothing yet
abbrev pub AreFresh : List SeatState → ℕ → ℕ → ℕ → Type 0
AreFresh xs sessions run tail =
    (p : ℕ) → p < length xs → slice_index_or (map part_of xs) p (fresh_part Vacant run tail) ≡ fresh_part (if is_taken sessions p then Idle else Vacant) run tail

-- none of the seats was promised a range, and each knows whether it is the flush seat
pub record AreNew (xs : List SeatState) : Type 0 where
  pub promised : promised_in xs ≡ 0
  pub numbered : AreNumbered xs
