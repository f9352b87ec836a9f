use Rattle.std.proofs.Common.{ℕ, ◌≡◌, ◌<◌, Some, List, set, length, slice_get, ◌∙◌, sym, refl, subst}
use Rattle.std.proofs.lemmas.Option.{same_Some}
use Rattle.erm_seat.specs.declared.seat.SeatState.{SeatState}
use Rattle.erm_seat.specs.Parts.{part_of}
use Rattle.erm_seat.specs.Rooms.{HasDrawRoom}
use Rattle.erm_core.specs.Cores.{parts_of}
use Rattle.erm_core.proofs.Rooms.{on_ok, kept_room}
use Rattle.erm_core.proofs.Seats.{get_set_same, inside, numbered_at, numbered_set}
use Rattle.erm_core.proofs.Steps.{core_path}
use Rattle.erm_core.proofs.Tables.{parts_set, parts_at, put_same_value}
use Rattle.erm_core.proofs.state.State.room_to_draw.Goals as goal

-- the seat that was set has the room
room_there : (xs : List SeatState) (p : ℕ) (y : SeatState) (size : ℕ) → p < length xs → HasDrawRoom y size → (x : SeatState) → slice_get (set xs p y) p ≡ Some x → HasDrawRoom x size
room_there xs p y size within room x there =
    subst (λ (z : SeatState). HasDrawRoom z size) (same_Some y x (sym (get_set_same xs p y within) ∙ there)) room

pub invariant_of-self-clause-numbered : goal.invariant_of-self-clause-numbered
invariant_of-self-clause-numbered c =
    let s = c.args.self.now in
    let within = inside s.seats.len c.args.seat (length s.seats.items) s.seats.ok.0 s.all_seats c.if-seat-ge-ANNOUNCERS.false in
    numbered_set s.seats.items c.args.seat within c.reserve_draw.new.self s.numbered
    (c.reserve_draw.ensures.room.flushes ∙ numbered_at s.seats.items c.args.seat within c.index_mut.result.now s.numbered c.index_mut.ensures.value)

pub invariant_of-self-clause-log_room : goal.invariant_of-self-clause-log_room
invariant_of-self-clause-log_room c =
    let s = c.args.self.now in
    let within = inside s.seats.len c.args.seat (length s.seats.items) s.seats.ok.0 s.all_seats c.if-seat-ge-ANNOUNCERS.false in
    kept_room s c.args.seat c.index_mut.result.now c.reserve_draw.new.self within c.index_mut.ensures.value c.reserve_draw.ensures.promised

pub returns-clause-core : goal.returns-clause-core
returns-clause-core c =
    let s = c.args.self.now in
    let within = inside s.seats.len c.args.seat (length s.seats.items) s.seats.ok.0 s.all_seats c.if-seat-ge-ANNOUNCERS.false in
    core_path _ _ refl
    (parts_set s.run s.opening s.seats.items c.args.seat c.reserve_draw.new.self within
    ∙ put_same_value (parts_of s.run s.opening s.seats.items) c.args.seat (part_of c.reserve_draw.new.self)
    (parts_at s.run s.opening s.seats.items c.args.seat c.index_mut.result.now within c.index_mut.ensures.value ∙ sym c.reserve_draw.ensures.same))

pub returns-clause-ok : goal.returns-clause-ok
returns-clause-ok c =
    let s = c.args.self.now in
    let within = inside s.seats.len c.args.seat (length s.seats.items) s.seats.ok.0 s.all_seats c.if-seat-ge-ANNOUNCERS.false in
    on_ok c.reserve_draw.result c.reserve_draw.ensures.ok (λ room. room_there s.seats.items c.args.seat c.reserve_draw.new.self c.args.size within room)
