-- Room that steps need, so that they take no memory, and room that is made once for a call of several steps.
use Rattle.std.specs.Prelude.{◌≡◌, ◌≢◌, ℕ, ◌+◌, ◌^◌, ◌<◌, ◌≤◌, false, Some, length, slice_get, vec_len, vec_capacity}
use Rattle.erm_machine.specs.declared.event.Counter.{Counter}
use Rattle.erm_machine.specs.declared.event.Counter.TheVariants as counter
use Rattle.erm_machine.specs.declared.event.Kind.{Kind}
use Rattle.erm_machine.specs.declared.event.Kind.TheVariants as kind
use Rattle.erm_machine.specs.declared.event.TailUse.{TailUse}
use Rattle.erm_machine.specs.declared.event.TailUse.TheVariants as purpose
use Rattle.erm_machine.specs.declared.limits.TheConstants.{ANNOUNCERS}
use Rattle.erm_machine.specs.declared.part.Part.{Part}
use Rattle.erm_kept.specs.declared.object.ObjectState.{ObjectState}
use Rattle.erm_kept.specs.Objects.{chain_len}
use Rattle.erm_seat.specs.declared.seat.SeatState.{SeatState}
use Rattle.erm_seat.specs.Kinds.{cells_in, object_in}
use Rattle.erm_seat.specs.Rooms.{no_growth, GoesOn, HasBeginRoom, HasCutRoom, HasSeatRoom, HasSpareRoom, Leaves}
use Rattle.erm_core.specs.declared.state.State.{State}
use Rattle.erm_core.specs.declared.need.Need.{Need}
use Rattle.erm_core.specs.declared.need.Need.TheVariants as need
use Rattle.erm_core.specs.Cores.{objects_of}
use Rattle.erm_core.specs.Seats.{promised_in, versions_in, CutsNot, KeepsPromise, ObjectsLeave}

-- an object has room for one more version
abbrev pub HasVersionRoom : State → ℕ → Type 0
HasVersionRoom s oid = (o : ObjectState) → slice_get s.objects.items oid ≡ Some o → vec_len o.versions < vec_capacity o.versions

-- what is shared has room for what a step of this kind adds, or its transaction adds later on account of it
abbrev pub HasSharedRoom : State → Kind → Type 0
HasSharedRoom s (kind.Claim oid seen number) = HasVersionRoom s oid
HasSharedRoom s _ = Unit {0}

-- The lists that are shared have room for what a step of this kind adds. A head that is installed is a cell that an entry can name.
abbrev pub HasChangeRoom : State → Kind → Type 0
HasChangeRoom s (kind.AddTail size) = vec_len s.log + promised_in s.seats.items < vec_capacity s.log
HasChangeRoom s (kind.Claim oid seen number) = HasVersionRoom s oid
HasChangeRoom s (kind.Install oid head) = (head < 2 ^ 24) × HasVersionRoom s oid
HasChangeRoom s _ = Unit {0}

-- how many ranges a step of this kind draws
abbrev pub ranges_in : Kind → ℕ
ranges_in (kind.AddTail size) = 1
ranges_in _ = 0

-- the log gets so many ranges as a step of this kind draws, in the room that it has
pub record DrawsIn (s t : State) (k : Kind) : Type 0 where
  pub len : vec_len t.log ≡ vec_len s.log + ranges_in k
  pub room : vec_capacity t.log ≡ vec_capacity s.log

-- a seat has room for what a step of this kind adds, or its transaction adds later on account of it
abbrev pub SeatHasRoom : State → ℕ → Kind → Type 0
SeatHasRoom s seat k = (x : SeatState) → slice_get s.seats.items seat ≡ Some x → HasSeatRoom x k (cells_in k (objects_of s.objects.items (object_in k)))

-- The state has room for what a step of this kind of a seat adds, and for what its transaction adds later on account of it.
pub record HasRoom (s : State) (seat : ℕ) (k : Kind) : Type 0 where
  pub shared : HasSharedRoom s k
  pub own : SeatHasRoom s seat k

-- What a step of this kind of a seat leaves of the room: no list has less capacity, but for those of a transaction that is over,
-- and none gets more than the kind adds.
pub record LeavesRoom (s t : State) (seat : ℕ) (k : Kind) : Type 0 where
  pub own : (x y : SeatState) → slice_get s.seats.items seat ≡ Some x → slice_get t.seats.items seat ≡ Some y
      → Leaves k (cells_in k (objects_of s.objects.items (object_in k))) false x y
  pub others : (p : ℕ) (x y : SeatState) → p ≢ seat → slice_get s.seats.items p ≡ Some x → slice_get t.seats.items p ≡ Some y → GoesOn no_growth x y
  pub objects : ObjectsLeave k s.objects.items t.objects.items
  pub log : vec_len t.log ≤ vec_len s.log + ranges_in k
  pub log_room : vec_capacity t.log ≡ vec_capacity s.log

-- a seat's own lists have room for a call, whose cut makes so many cells spare at most
abbrev pub HasNeedRoom : SeatState → Need → ℕ → Type 0
HasNeedRoom x need.Begin cells = HasBeginRoom x
HasNeedRoom x need.Read cells = vec_len x.current.reads < vec_capacity x.current.reads
HasNeedRoom x (need.Claim oid) cells = HasCutRoom x cells
HasNeedRoom x need.Make cells = vec_len x.current.made < vec_capacity x.current.made

-- the log has room for what a call promises
abbrev pub HasPromiseRoom : State → Need → Type 0
HasPromiseRoom s need.Begin = vec_len s.log + ANNOUNCERS ≤ vec_capacity s.log
HasPromiseRoom s _ = Unit {0}

-- a call other than a begin promises no range
abbrev pub PromisesFor : Need → SeatState → SeatState → Type 0
PromisesFor need.Begin x y = Unit {0}
PromisesFor _ x y = KeepsPromise x y

-- how many cells a call's cut makes spare at most
abbrev pub cells_of_need : State → Need → ℕ
cells_of_need s (need.Claim oid) = chain_len (objects_of s.objects.items oid)
cells_of_need s _ = 0

-- what is shared has room for a call
abbrev pub SharedHasNeedRoom : State → Need → Type 0
SharedHasNeedRoom s (need.Claim oid) = HasVersionRoom s oid
SharedHasNeedRoom s _ = Unit {0}

-- The room that a call of a seat needs was made, and isn't used yet.
pub record HasCallRoom (s : State) (seat : ℕ) (n : Need) : Type 0 where
  pub own : (x : SeatState) → slice_get s.seats.items seat ≡ Some x → HasNeedRoom x n (cells_of_need s n)
  pub shared : SharedHasNeedRoom s n

-- After a claim's exchange: its cut may make all cells of the object's chain spare.
abbrev pub HasSwapRoom : State → ℕ → ℕ → Type 0
HasSwapRoom s seat oid = (x : SeatState) → slice_get s.seats.items seat ≡ Some x → HasSpareRoom x (chain_len (objects_of s.objects.items oid))

-- kinds that add nothing to a list of their seat, and end no transaction
abbrev pub AddsNothing : Kind → Type 0
AddsNothing (kind.AddTail size) = ⊥
AddsNothing (kind.StoreBegin value) = ⊥
AddsNothing (kind.StoreState value) = ⊥
AddsNothing (kind.SetReader v) = ⊥
AddsNothing (kind.Claim oid seen number) = ⊥
AddsNothing (kind.AddCounter c) = ⊥
AddsNothing (kind.StoreRing at value) = ⊥
AddsNothing (kind.SwapLink v) = ⊥
AddsNothing (kind.Install oid head) = ⊥
AddsNothing _ = Unit {0}

-- kinds that neither draw a range nor may end a transaction
abbrev pub GoesOnAfter : Kind → Type 0
GoesOnAfter (kind.AddTail size) = ⊥
GoesOnAfter (kind.StoreBegin value) = ⊥
GoesOnAfter (kind.StoreState value) = ⊥
GoesOnAfter _ = Unit {0}

-- a seat's lists have got no more
pub record IsSteady (x y : Part) : Type 0 where
  pub reads : length y.current.reads ≤ length x.current.reads
  pub claims : length y.current.writes ≤ length x.current.writes
  pub made : length y.current.made ≤ length x.current.made
  pub words : length y.current.block ≤ length x.current.block
  pub spare : length y.spare ≤ length x.spare

-- a step of this kind adds no version to an object, and doesn't cut its chain
pub record LeavesChain (k : Kind) (oid : ℕ) : Type 0 where
  pub versions : versions_in k oid ≡ 0
  pub cut : CutsNot k oid

-- a step of this kind leaves the chain that a call claims
abbrev pub LeavesNeed : Kind → Need → Type 0
LeavesNeed k (need.Claim oid) = LeavesChain k oid
LeavesNeed k _ = Unit {0}

-- a load of the tail for this use needs this
abbrev pub IsOfBegin : Need → TailUse → Type 0
IsOfBegin n purpose.Begin = n ≡ need.Begin
IsOfBegin n _ = Unit {0}

abbrev pub IsOfMake : Need → Counter → Type 0
IsOfMake n counter.Objects = n ≡ need.Make
IsOfMake n counter.Cells = Unit {0}

-- The room that is made for a call serves a step of this kind; most kinds need none. Ranges are drawn apart.
abbrev pub IsOfCall : Need → Kind → Type 0
IsOfCall n (kind.LoadTail use_of) = IsOfBegin n use_of
IsOfCall n (kind.AddTail size) = ⊥
IsOfCall n (kind.SetReader v) = n ≡ need.Read
IsOfCall n (kind.Claim oid seen number) = n ≡ need.Claim oid
IsOfCall n (kind.AddCounter c) = IsOfMake n c
IsOfCall n (kind.SwapLink v) = n ≡ need.Claim v.oid
IsOfCall n _ = Unit {0}

-- kinds that need no room, but for a range
abbrev pub IsOfNone : Kind → Type 0
IsOfNone (kind.LoadTail purpose.Begin) = ⊥
IsOfNone (kind.SetReader v) = ⊥
IsOfNone (kind.Claim oid seen number) = ⊥
IsOfNone (kind.AddCounter counter.Objects) = ⊥
IsOfNone (kind.SwapLink v) = ⊥
IsOfNone _ = Unit {0}
