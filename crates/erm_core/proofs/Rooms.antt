-- Room: what a change needs, what a step leaves, and which steps the room of a call serves.
use Rattle.std.proofs.Common.{◌≡◌, ℕ, ◌+◌, ◌<◌, ◌≤◌, Bool, false, List, set, get_or, drop, take, length, Some, refl, sym, ap, ◌∙◌, subst, arith, slice_get}
use Rattle.std.specs.Prelude.{vec_len, vec_capacity, Result, Ok, Err, OnOk}
use Rattle.std.proofs.lemmas.List.{get_or-map, length-drop, length-map, length-set, length-take}
use Rattle.std.proofs.lemmas.Option.{slice_get_within, get_or_from_slice_get, same_Some}
use Rattle.erm_machine.specs.declared.attempt.OwnCell.{OwnCell}
use Rattle.erm_machine.specs.declared.event.Counter.{Counter}
use Rattle.erm_machine.specs.declared.event.Counter.TheVariants as counter
use Rattle.erm_machine.specs.declared.event.Kind.{Kind}
use Rattle.erm_machine.specs.declared.event.Kind.TheVariants as kind
use Rattle.erm_machine.specs.declared.event.TailUse.{TailUse}
use Rattle.erm_machine.specs.declared.event.TailUse.TheVariants as purpose
use Rattle.erm_machine.specs.declared.part.Part.{Part}
use Rattle.erm_machine.specs.declared.version.Version.{Version}
use Rattle.erm_machine.specs.Core.{Core, Object, no_object}
use Rattle.erm_machine.specs.Reading.{cut_off}
use Rattle.erm_machine.specs.Sound.{Sound}
use Rattle.erm_machine.specs.Step.{part_after}
use Rattle.erm_machine.specs.Words.{owner_of}
use Rattle.erm_kept.specs.declared.object.ObjectState.{ObjectState}
use Rattle.erm_kept.specs.Objects.{object_of, chain_len}
use Rattle.erm_seat.specs.declared.seat.SeatState.{SeatState}
use Rattle.erm_seat.specs.Kinds.{cells_in, object_in}
use Rattle.erm_seat.specs.Rooms.{HasTailRoom, HasNumberRoom, HasSeatRoom, Leaves, GoesOn, no_growth}
use Rattle.erm_seat.proofs.Rooms.{leaves_all, stays}
use Rattle.erm_core.specs.declared.need.Need.{Need}
use Rattle.erm_core.specs.declared.need.Need.TheVariants as need
use Rattle.erm_core.specs.declared.state.State.{State}
use Rattle.erm_core.specs.Cores.{core_of, shared_of, objects_of}
use Rattle.erm_core.specs.Rooms.{ranges_in, cells_of_need, HasSharedRoom, HasChangeRoom, HasVersionRoom, HasRoom, HasCallRoom, HasNeedRoom, HasPromiseRoom, PromisesFor, SharedHasNeedRoom, IsOfBegin, IsOfMake, IsOfCall, IsOfNone, LeavesRoom}
use Rattle.erm_core.specs.Seats.{promise, promised_in, SeatsLeave, ObjectsLeave}
use Rattle.erm_seat.specs.Needs.{one}
use Rattle.erm_core.proofs.Installs.{Owned, installs_owned}
use Rattle.erm_core.proofs.Objects.{objects_stay}
use Rattle.erm_core.proofs.Seats.{few_promised, goes_on_set, leaves_either, promised_set, stays_there}

-- an object that is kept
pub object_kept : (os : List ObjectState) (oid : ℕ) (o : ObjectState) → slice_get os oid ≡ Some o → objects_of os oid ≡ object_of o
object_kept os oid o there =
    get_or-map object_of os oid o no_object (slice_get_within os oid o there) ∙ ap object_of (get_or_from_slice_get os oid o o there)

-- an object has the room that it had
version_room : (s t : State) (oid : ℕ) → t.objects ≡ s.objects → HasVersionRoom s oid → HasVersionRoom t oid
version_room s t oid objects h o there = h o (subst (λ os. slice_get os oid ≡ Some o) (ap (λ v. v.items) objects) there)

module _ (s t : State) (p : ℕ) (k : Kind) (found : ℕ) (y : Part) (sound : Sound (core_of s)) (objects : t.objects ≡ s.objects) (log : t.log ≡ s.log)
    (after : part_after p k found (shared_of s) ((core_of s).seats p) ≡ Some y) (promised : promised_in t.seats.items + ranges_in k ≤ promised_in s.seats.items) where
  log_room : 1 ≤ ranges_in k → vec_len t.log + promised_in t.seats.items < vec_capacity t.log
  log_room drawn =
      let len : vec_len t.log ≡ vec_len s.log = ap vec_len log in
      let capacity : vec_capacity t.log ≡ vec_capacity s.log = ap vec_capacity log in
      let room = s.log_room in
      omega (arith, drawn, len, capacity, room, promised)

  -- an install finds an entry that the seat owns
  installed : (oid head : ℕ) → kind.Install oid head ≡ k → Owned (core_of s) p oid head
  installed oid head is = installs_owned (core_of s) p oid head sound found y (subst (λ (m : Kind). part_after p m found (shared_of s) ((core_of s).seats p) ≡ Some y) (sym is) after)

  -- an object that is owned has room for a version
  owned_room : (oid : ℕ) → owner_of ((core_of s).shared.objects oid).entry ≡ p → 0 < p → HasVersionRoom s oid
  owned_room oid owner positive o there =
      let entry : ((core_of s).shared.objects oid).entry ≡ o.entry = ap (λ (x : Object). x.entry) (object_kept s.objects.items oid o there) in
      let owned : owner_of o.entry ≡ p = ap owner_of (sym entry) ∙ owner in
      let room = o.room in
      omega (arith, room, owned, positive)

  -- what is shared has room for the change
  pub change_room : (j : Kind) → j ≡ k → HasSharedRoom s j → HasChangeRoom t j
  change_room (kind.AddTail size) is h = let drawn : 1 ≡ ranges_in k = ap ranges_in is in log_room (omega (arith, drawn))
  change_room (kind.Claim oid seen number) is h = version_room s t oid objects h
  change_room (kind.Install oid head) is h = ((installed oid head is).low, version_room s t oid objects (owned_room oid (installed oid head is).owner (installed oid head is).positive))
  change_room _ is h = tt

-- the room that a seat's step and the change of what is shared leave
pub leaves_room : (s t u : State) (p : ℕ) (k : Kind) (done : Bool) → t.objects ≡ s.objects → t.log ≡ s.log → u.seats ≡ t.seats →
    SeatsLeave k (cells_in k (objects_of s.objects.items (object_in k))) done p s.seats.items t.seats.items → ObjectsLeave k t.objects.items u.objects.items →
    vec_len u.log ≤ vec_len t.log + ranges_in k → vec_capacity u.log ≡ vec_capacity t.log → LeavesRoom s u p k
leaves_room s t u p k done objects log seats left changed len room =
    let same_len : vec_len t.log ≡ vec_len s.log = ap vec_len log in
    let same_room : vec_capacity t.log ≡ vec_capacity s.log = ap vec_capacity log in
    let items : u.seats.items ≡ t.seats.items = ap (λ v. v.items) seats in
    record {
      own = λ x y there_x there_y. leaves_either k _ done x y (left.own x y there_x (subst (λ ys. slice_get ys p ≡ Some y) items there_y));
      others = λ q x y ne there_x there_y. stays_there s.seats.items t.seats.items q x y (left.others q ne) there_x (subst (λ ys. slice_get ys q ≡ Some y) items there_y);
      objects = subst (λ os. ObjectsLeave k os u.objects.items) (ap (λ v. v.items) objects) changed;
      log = omega (arith, len, same_len);
      log_room = room ∙ same_room;
    }

-- a state that stays
pub room_stays : (s : State) (p : ℕ) (k : Kind) → LeavesRoom s s p k
room_stays s p k = record {
  own = λ x y there_x there_y.
      let same : x ≡ y = same_Some x y (sym there_x ∙ there_y) in
      subst (λ (z : SeatState). Leaves k (cells_in k (objects_of s.objects.items (object_in k))) false x z) same (leaves_all k _ x x (stays x));
  others = λ q x y ne there_x there_y. stays_there s.seats.items s.seats.items q x y refl there_x there_y;
  objects = objects_stay k s.objects.items s.objects.items refl;
  log = omega arith;
  log_room = refl;
}

-- a cut takes no more versions off than the chain has
pub cut_few : (place : ℕ) (o : Object) → length (cut_off place o) ≤ chain_len o
cut_few place o =
    let all : length (cut_off place o) ≡ length (drop o.cut (take place o.versions)) =
    length-map (drop o.cut (take place o.versions)) (λ (v : Version). let own : OwnCell = record { cell = v.cell; words = v.words } in own) in
    let dropped = length-drop o.cut (take place o.versions) in
    let taken = length-take place o.versions in
    omega (arith, all, dropped, taken)

tail_serves : (n : Need) (use_of : TailUse) (x : SeatState) (cells : ℕ) → IsOfBegin n use_of → HasNeedRoom x n cells → HasTailRoom x use_of
tail_serves n purpose.Begin x cells is h = λ _. subst (λ m. HasNeedRoom x m cells) is h
tail_serves n purpose.Horizon x cells is h = tt
tail_serves n purpose.Gather x cells is h = tt

number_serves : (n : Need) (c : Counter) (x : SeatState) (cells : ℕ) → IsOfMake n c → HasNeedRoom x n cells → HasNumberRoom x c
number_serves n counter.Objects x cells is h = subst (λ m. HasNeedRoom x m cells) is h
number_serves n counter.Cells x cells is h = tt

module _ (s : State) (p : ℕ) (n : Need) (room : HasCallRoom s p n) where
  seat_serves : (k : Kind) → IsOfCall n k → (x : SeatState) → HasNeedRoom x n (cells_of_need s n) → HasSeatRoom x k (cells_in k (objects_of s.objects.items (object_in k)))
  seat_serves (kind.LoadTail use_of) is x h = tail_serves n use_of x (cells_of_need s n) is h
  seat_serves (kind.AddTail size) is x h = absurd is
  seat_serves (kind.SetReader v) is x h = subst (λ m. HasNeedRoom x m (cells_of_need s n)) is h
  seat_serves (kind.Claim oid seen number) is x h = λ _. (subst (λ m. HasNeedRoom x m (cells_of_need s m)) is h).claim
  seat_serves (kind.AddCounter c) is x h = number_serves n c x (cells_of_need s n) is h
  seat_serves (kind.SwapLink v) is x h =
      let cut = (subst (λ m. HasNeedRoom x m (cells_of_need s m)) is h).cut in
      let few = cut_few v.place (objects_of s.objects.items v.oid) in
      omega (arith, cut, few)
  seat_serves _ is x h = tt

  shared_serves : (k : Kind) → IsOfCall n k → HasSharedRoom s k
  shared_serves (kind.Claim oid seen number) is = subst (λ m. SharedHasNeedRoom s m) is room.shared
  shared_serves _ is = tt

  -- the room of a call serves each of its steps
  pub call_serves : (k : Kind) → IsOfCall n k → HasRoom s p k
  call_serves k is = record { shared = shared_serves k is; own = λ x there. seat_serves k is x (room.own x there) }

tail_free : (use_of : TailUse) (x : SeatState) → IsOfNone (kind.LoadTail use_of) → HasTailRoom x use_of
tail_free purpose.Begin x is = absurd is
tail_free purpose.Horizon x is = tt
tail_free purpose.Gather x is = tt

number_free : (c : Counter) (x : SeatState) → IsOfNone (kind.AddCounter c) → HasNumberRoom x c
number_free counter.Objects x is = absurd is
number_free counter.Cells x is = tt

seat_free : (k : Kind) (x : SeatState) (cells : ℕ) → ranges_in k ≡ 0 → IsOfNone k → HasSeatRoom x k cells
seat_free (kind.LoadTail use_of) x cells none is = tail_free use_of x is
seat_free (kind.AddTail size) x cells none is = absurd (omega (arith, none))
seat_free (kind.SetReader v) x cells none is = absurd is
seat_free (kind.Claim oid seen number) x cells none is = absurd is
seat_free (kind.AddCounter c) x cells none is = number_free c x is
seat_free (kind.SwapLink v) x cells none is = absurd is
seat_free _ x cells none is = tt

shared_free : (s : State) (k : Kind) → IsOfNone k → HasSharedRoom s k
shared_free s (kind.Claim oid seen number) is = absurd is
shared_free s _ is = tt

-- steps of these kinds need no room
pub none_needed : (s : State) (p : ℕ) (k : Kind) → ranges_in k ≡ 0 → IsOfNone k → HasRoom s p k
none_needed s p k none is = record { shared = shared_free s k is; own = λ x _. seat_free k x _ none is }

-- a kind that draws no range
pub draws_none : (k : Kind) → ((size : ℕ) → k ≡ kind.AddTail size → ⊥) → ranges_in k ≡ 0
draws_none (kind.AddTail size) not = absurd (not size refl)
draws_none _ not = refl

pub on_ok : {A E : Type 0} {P Q : Type 0} (r : Result A E) → OnOk r P → (P → Q) → OnOk r Q
on_ok (Ok v) h f = f h
on_ok (Err e) h f = h

-- a call's cut makes as many cells spare, where the machine's state is the same
pub cells_same : (s t : State) (n : Need) → core_of t ≡ core_of s → cells_of_need t n ≡ cells_of_need s n
cells_same s t (need.Claim oid) same = ap (λ (c : Core). chain_len (c.shared.objects oid)) same
cells_same s t _ same = refl

-- a seat's own lists with the room of a call, in a state that is the same
pub need_kept : {A E : Type 0} (s t : State) (p : ℕ) (n : Need) (xs : List SeatState) (r : Result A E) → core_of t ≡ core_of s →
    OnOk r ((x : SeatState) → slice_get xs p ≡ Some x → HasNeedRoom x n (cells_of_need t n)) →
    OnOk r ((x : SeatState) → slice_get xs p ≡ Some x → HasNeedRoom x n (cells_of_need s n))
need_kept s t p n xs r same h = on_ok r h (λ f x there. subst (λ m. HasNeedRoom x n m) (cells_same s t n same) (f x there))

-- the log has room for the ranges that are promised after a call's room is made
pub promise_room : (n : Need) (s : State) (p : ℕ) (x y : SeatState) → p < length s.seats.items → x ≡ get_or s.seats.items p x → HasPromiseRoom s n → PromisesFor n x y →
    vec_len s.log + promised_in (set s.seats.items p y) ≤ vec_capacity s.log
promise_room need.Begin s p x y within at room promises =
    let few = few_promised (set s.seats.items p y) in
    let len = length-set s.seats.items p y in
    let all = s.all_seats in
    let items = s.seats.ok.0 in
    omega (arith, few, len, all, items, room)
promise_room n s p x y within at room promises =
    let sum = promised_set s.seats.items p within x y at in
    let same : promise y ≡ promise x = ap one promises in
    let before = s.log_room in
    omega (arith, sum, same, before)

-- a seat that stays what it was promised
pub kept_room : (s : State) (p : ℕ) (x y : SeatState) → p < length s.seats.items → x ≡ get_or s.seats.items p x → y.promised ≡ x.promised →
    vec_len s.log + promised_in (set s.seats.items p y) ≤ vec_capacity s.log
kept_room s p x y within at promised =
    let sum = promised_set s.seats.items p within x y at in
    let same : promise y ≡ promise x = ap one promised in
    let before = s.log_room in
    omega (arith, sum, same, before)

-- a split or a join leaves all room
pub moved_leaves : (s t : State) (p q : ℕ) (k : Kind) (x y : SeatState) → t.objects ≡ s.objects → t.log ≡ s.log → q < length s.seats.items → x ≡ get_or s.seats.items q x →
    GoesOn no_growth x y → t.seats.items ≡ set s.seats.items q y → LeavesRoom s t p k
moved_leaves s t p q k x y objects log within at goes items =
    let len : vec_len t.log ≡ vec_len s.log = ap vec_len log in
    record {
      own = λ z w there_z there_w.
          leaves_all k _ z w (goes_on_set s.seats.items q within x y at goes p z w there_z (subst (λ ys. slice_get ys p ≡ Some w) items there_w));
      others = λ r z w ne there_z there_w. goes_on_set s.seats.items q within x y at goes r z w there_z (subst (λ ys. slice_get ys r ≡ Some w) items there_w);
      objects = objects_stay k s.objects.items t.objects.items (ap (λ v. v.items) objects);
      log = omega (arith, len);
      log_room = ap vec_capacity log;
    }
