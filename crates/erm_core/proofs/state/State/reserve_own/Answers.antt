use Rattle.std.proofs.Common.{ℕ, ◌≡◌, ◌<◌, Some, List, set, length, slice_get, ◌∙◌, sym, refl, subst}
use Rattle.std.proofs.lemmas.Option.{same_Some}
use Rattle.erm_seat.specs.declared.seat.SeatState.{SeatState}
use Rattle.erm_seat.specs.Parts.{part_of}
use Rattle.erm_core.specs.declared.need.Need.{Need}
use Rattle.erm_core.specs.Rooms.{HasNeedRoom}
use Rattle.erm_core.specs.Cores.{parts_of}
use Rattle.erm_core.proofs.Rooms.{on_ok, promise_room}
use Rattle.erm_core.proofs.Seats.{get_set_same, inside, numbered_at, numbered_set}
use Rattle.erm_core.proofs.Steps.{core_path}
use Rattle.erm_core.proofs.Tables.{parts_set, parts_at, put_same_value}
use Rattle.erm_core.proofs.state.State.reserve_own.Goals as goal

-- the seat that was set has the room
room_there : (xs : List SeatState) (p : ℕ) (y : SeatState) (n : Need) (cells wanted : ℕ) → p < length xs → cells ≡ wanted → HasNeedRoom y n cells →
    (x : SeatState) → slice_get (set xs p y) p ≡ Some x → HasNeedRoom x n wanted
room_there xs p y n cells wanted within is room x there =
    let same : y ≡ x = same_Some y x (sym (get_set_same xs p y within) ∙ there) in
    subst (λ m. HasNeedRoom x n m) is (subst (λ (z : SeatState). HasNeedRoom z n cells) same room)

pub invariant_of-self-clause-numbered : goal.invariant_of-self-clause-numbered
invariant_of-self-clause-numbered c =
    let s = c.args.self.now in
    let within = inside s.seats.len c.args.seat (length s.seats.items) s.seats.ok.0 s.all_seats c.requires.seat in
    numbered_set s.seats.items c.args.seat within c.reserve_need.new.x s.numbered
    (c.reserve_need.ensures.room.flushes ∙ numbered_at s.seats.items c.args.seat within c.index_mut.result.now s.numbered c.index_mut.ensures.value)

pub invariant_of-self-clause-log_room : goal.invariant_of-self-clause-log_room
invariant_of-self-clause-log_room c =
    let s = c.args.self.now in
    let within = inside s.seats.len c.args.seat (length s.seats.items) s.seats.ok.0 s.all_seats c.requires.seat in
    promise_room c.args.need s c.args.seat c.index_mut.result.now c.reserve_need.new.x within c.index_mut.ensures.value c.requires.ranges c.reserve_need.ensures.promise

pub returns-clause-core : goal.returns-clause-core
returns-clause-core c =
    let s = c.args.self.now in
    let within = inside s.seats.len c.args.seat (length s.seats.items) s.seats.ok.0 s.all_seats c.requires.seat in
    core_path _ _ refl
    (parts_set s.run s.opening s.seats.items c.args.seat c.reserve_need.new.x within
    ∙ put_same_value (parts_of s.run s.opening s.seats.items) c.args.seat (part_of c.reserve_need.new.x)
    (parts_at s.run s.opening s.seats.items c.args.seat c.index_mut.result.now within c.index_mut.ensures.value ∙ sym c.reserve_need.ensures.same))

pub returns-clause-ok : goal.returns-clause-ok
returns-clause-ok c =
    let s = c.args.self.now in
    let within = inside s.seats.len c.args.seat (length s.seats.items) s.seats.ok.0 s.all_seats c.requires.seat in
    on_ok c.reserve_need.result c.reserve_need.ensures.ok (λ room. room_there s.seats.items c.args.seat c.reserve_need.new.x c.args.need c.cells-cells.result _ within c.cells-cells.ensures room)
