-- The seats and objects of the running machine as lists.
use Rattle.std.specs.Prelude.{◌≡◌, ◌≢◌, ℕ, ◌+◌, ◌≤◌, Bool, Some, List, sum_by, slice_get, vec_len, vec_capacity}
use Rattle.std.specs.Prelude.{if◌then◌else◌, ◌==◌}
use Rattle.erm_machine.specs.declared.event.Kind.{Kind}
use Rattle.erm_machine.specs.declared.event.Kind.TheVariants as kind
use Rattle.erm_machine.specs.Words.{is_flusher}
use Rattle.erm_kept.specs.declared.object.ObjectState.{ObjectState}
use Rattle.erm_seat.specs.declared.seat.SeatState.{SeatState}
use Rattle.erm_seat.specs.Needs.{one}
use Rattle.erm_seat.specs.Rooms.{Leaves}

-- 1 where the log keeps room for a range of the seat, else 0
abbrev pub promise : SeatState → ℕ
promise x = one x.promised

-- for how many ranges the log keeps room
abbrev pub promised_in : List SeatState → ℕ
promised_in xs = sum_by promise xs

-- a seat's promise stays
abbrev pub KeepsPromise : SeatState → SeatState → Type 0
KeepsPromise x y = y.promised ≡ x.promised

-- each seat knows whether it is the flush seat
abbrev pub AreNumbered : List SeatState → Type 0
AreNumbered xs = (p : ℕ) (x : SeatState) → slice_get xs p ≡ Some x → x.flushes ≡ is_flusher p

-- A step of this kind of one seat leaves this of its room, where it makes so many cells spare, and the other seats as they were.
pub record SeatsLeave (k : Kind) (cells : ℕ) (done : Bool) (seat : ℕ) (xs ys : List SeatState) : Type 0 where
  pub own : (x y : SeatState) → slice_get xs seat ≡ Some x → slice_get ys seat ≡ Some y → Leaves k cells done x y
  pub others : (p : ℕ) → p ≢ seat → slice_get ys p ≡ slice_get xs p

-- how many versions a step of this kind adds to an object
abbrev pub versions_in : Kind → ℕ → ℕ
versions_in (kind.Install n head) oid = if n == oid then 1 else 0
versions_in _ oid = 0

-- a step of this kind doesn't cut this object's chain
abbrev pub CutsNot : Kind → ℕ → Type 0
CutsNot (kind.SwapLink v) oid = oid ≢ v.oid
CutsNot _ oid = Unit {0}

-- a step of this kind leaves this of an object's room
pub record ObjectLeaves (k : Kind) (oid : ℕ) (o u : ObjectState) : Type 0 where
  pub room : vec_capacity u.versions ≡ vec_capacity o.versions
  pub versions : vec_len u.versions ≤ vec_len o.versions + versions_in k oid
  pub cut : CutsNot k oid → u.cut ≡ o.cut

abbrev pub ObjectsLeave : Kind → List ObjectState → List ObjectState → Type 0
ObjectsLeave k os us = (oid : ℕ) (o u : ObjectState) → slice_get os oid ≡ Some o → slice_get us oid ≡ Some u → ObjectLeaves k oid o u
