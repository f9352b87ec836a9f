-- Room that a seat's steps need, so that they take no memory, and what they leave of it.
use Rattle.std.specs.Prelude.{◌≡◌, ◌≢◌, ℕ, ◌+◌, ◌-◌, ◌*◌, ◌<◌, ◌≤◌, Bool, vec_len, vec_capacity}
use Rattle.erm_machine.specs.declared.event.Counter.{Counter}
use Rattle.erm_machine.specs.declared.event.Counter.TheVariants as counter
use Rattle.erm_machine.specs.declared.event.Kind.{Kind}
use Rattle.erm_machine.specs.declared.event.Kind.TheVariants as kind
use Rattle.erm_machine.specs.declared.event.TailUse.{TailUse}
use Rattle.erm_machine.specs.declared.event.TailUse.TheVariants as purpose
use Rattle.erm_machine.specs.declared.limits.TheConstants.{GREATEST_BLOCK, WRITE_LIMIT}
use Rattle.erm_machine.specs.declared.place.Place.TheVariants.{Idle}
use Rattle.erm_kept.specs.Attempts.{KeepsLists}
use Rattle.erm_seat.specs.declared.seat.SeatState.{SeatState}
use Rattle.erm_seat.specs.Needs.{lasting, one}

-- A transaction may begin: there is room for it once it is over, for a block without rows, and for its range. The flush seat's
-- pins need none.
pub record HasBeginRoom (x : SeatState) : Type 0 where
  pub over : vec_len x.over + lasting x.flushes 1 ≤ vec_capacity x.over
  pub block : vec_len x.current.block + lasting x.flushes 4 ≤ vec_capacity x.current.block
  pub log : lasting x.flushes 1 ≤ one x.promised

-- a claim may be made: there is room for it, for its row in the block, and for its cell where it is given back
pub record HasClaimRoom (x : SeatState) : Type 0 where
  pub claims : vec_len x.current.writes < vec_capacity x.current.writes
  pub block : vec_len x.current.block + (4 + 17 * (vec_len x.current.writes + 1)) ≤ vec_capacity x.current.block
  pub spare : vec_len x.spare + (vec_len x.current.writes + 1) ≤ vec_capacity x.spare

-- A range of this size may be drawn: where it is greater than a block with a row for each claim there is room for its words.
abbrev pub HasDrawRoom : SeatState → ℕ → Type 0
HasDrawRoom x size = size ≤ GREATEST_BLOCK → 5 + 17 * vec_len x.current.writes < size → vec_len x.current.block + (size - 1) ≤ vec_capacity x.current.block

-- so many cells may become spare, beside those of all claims
abbrev pub HasSpareRoom : SeatState → ℕ → Type 0
HasSpareRoom x cells = vec_len x.spare + (vec_len x.current.writes + cells) ≤ vec_capacity x.spare

-- A call that claims may be made: it may claim, and its cut may make so many cells spare.
pub record HasCutRoom (x : SeatState) (cells : ℕ) : Type 0 where
  pub claim : HasClaimRoom x
  pub cut : HasSpareRoom x (cells + 1)

-- room for what a load of the tail begins: its second load has the room that was made for the first
abbrev pub HasTailRoom : SeatState → TailUse → Type 0
HasTailRoom x purpose.Begin = x.place ≡ Idle → HasBeginRoom x
HasTailRoom x _ = Unit {0}

-- room for what a counter's number goes to
abbrev pub HasNumberRoom : SeatState → Counter → Type 0
HasNumberRoom x counter.Objects = vec_len x.current.made < vec_capacity x.current.made
HasNumberRoom x counter.Cells = Unit {0}

-- A seat has room for what a step of this kind adds, and for what its transaction adds later on account of it. Steps of a
-- write of a claimed row, of a seal with a block of a row for each claim, of a settle and of an end ask for nothing, nor do any
-- of the flush seat. So many cells are those that the step makes spare.
abbrev pub HasSeatRoom : SeatState → Kind → ℕ → Type 0
HasSeatRoom x (kind.LoadTail purpose) cells = HasTailRoom x purpose
HasSeatRoom x (kind.AddTail size) cells = HasDrawRoom x size
HasSeatRoom x (kind.SetReader v) cells = vec_len x.current.reads < vec_capacity x.current.reads
HasSeatRoom x (kind.Claim oid seen number) cells = vec_len x.current.writes < WRITE_LIMIT → HasClaimRoom x
HasSeatRoom x (kind.AddCounter counter) cells = HasNumberRoom x counter
HasSeatRoom x (kind.SwapLink v) cells = HasSpareRoom x cells
HasSeatRoom x _ cells = Unit {0}

-- How many elements a step adds to its seat's lists at most.
pub record Growth : Type 0 where
  pub reads : ℕ
  pub claims : ℕ
  pub made : ℕ
  pub words : ℕ
  pub spare : ℕ

abbrev pub no_growth : Growth
no_growth = record { reads = 0; claims = 0; made = 0; words = 0; spare = 0 }

-- the seat's lists get no more than that
pub record GrowsBy (g : Growth) (x y : SeatState) : Type 0 where
  pub reads : vec_len y.current.reads ≤ vec_len x.current.reads + g.reads
  pub claims : vec_len y.current.writes ≤ vec_len x.current.writes + g.claims
  pub made : vec_len y.current.made ≤ vec_len x.current.made + g.made
  pub words : vec_len y.current.block ≤ vec_len x.current.block + g.words
  pub spare : vec_len y.spare ≤ vec_len x.spare + g.spare

-- the seat is what it was, and its own lists have the same room
pub record KeepsSeat (x y : SeatState) : Type 0 where
  pub flushes : y.flushes ≡ x.flushes
  pub over : vec_capacity y.over ≡ vec_capacity x.over
  pub spare : vec_capacity y.spare ≡ vec_capacity x.spare

-- A step that goes on: all lists have the same room, and get no more than that.
pub record GoesOn (g : Growth) (x y : SeatState) : Type 0 where
  pub seat : KeepsSeat x y
  pub over : vec_len y.over ≡ vec_len x.over
  pub promised : y.promised ≡ x.promised
  pub lists : KeepsLists x.current y.current
  pub grows : GrowsBy g x y

-- A step after which the transaction may be over: then its lists are gone with it.
pub record MayEnd (x y : SeatState) : Type 0 where
  pub seat : KeepsSeat x y
  pub over : vec_len y.over ≤ vec_len x.over + 1
  pub promised : y.promised ≡ x.promised
  pub lists : y.place ≢ Idle → KeepsLists x.current y.current
  pub grows : GrowsBy no_growth x y

-- A step that draws a range, where it is done, in the room that the log kept for it.
pub record MayDraw (done : Bool) (x y : SeatState) : Type 0 where
  pub seat : KeepsSeat x y
  pub over : vec_len y.over ≡ vec_len x.over
  pub promised : one y.promised + one done ≤ one x.promised
  pub lists : KeepsLists x.current y.current
  pub grows : GrowsBy no_growth x y

-- how many elements a step of this kind adds to its seat's lists at most, where it makes so many cells spare
abbrev pub growth_in : Kind → ℕ → Growth
growth_in (kind.SetReader v) cells = record no_growth { reads = 1 }
growth_in (kind.Claim oid seen number) cells = record no_growth { claims = 1 }
growth_in (kind.AddCounter counter) cells = record no_growth { made = 1 }
growth_in (kind.StoreRing at value) cells = record no_growth { words = 1 }
growth_in (kind.SwapLink v) cells = record no_growth { spare = cells }
growth_in (kind.Install oid head) cells = record no_growth { spare = 1 }
growth_in _ cells = no_growth

-- what a step of this kind leaves of its seat's room, where it is done or not
abbrev pub Leaves : Kind → ℕ → Bool → SeatState → SeatState → Type 0
Leaves (kind.AddTail size) cells done x y = MayDraw done x y
Leaves (kind.StoreBegin value) cells done x y = MayEnd x y
Leaves (kind.StoreState value) cells done x y = MayEnd x y
Leaves k cells done x y = GoesOn (growth_in k cells) x y

-- The seat is what it was, and its lists have at least the room that they had.
pub record Reserves (x y : SeatState) : Type 0 where
  pub flushes : y.flushes ≡ x.flushes
  pub over : vec_capacity x.over ≤ vec_capacity y.over
  pub spare : vec_capacity x.spare ≤ vec_capacity y.spare
  pub reads : vec_capacity x.current.reads ≤ vec_capacity y.current.reads
  pub claims : vec_capacity x.current.writes ≤ vec_capacity y.current.writes
  pub made : vec_capacity x.current.made ≤ vec_capacity y.current.made
  pub block : vec_capacity x.current.block ≤ vec_capacity y.current.block
