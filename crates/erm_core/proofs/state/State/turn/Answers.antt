use Rattle.std.proofs.Common.{ℕ, ◌≡◌, ◌<◌, Some, None, length, ap, ◌∙◌, sym, refl, subst, arith}
use Rattle.std.specs.Prelude.{if◌then◌else◌}
use Rattle.erm_machine.specs.declared.limits.TheConstants.{ANNOUNCERS, OBJECT_LIMIT}
use Rattle.erm_machine.specs.declared.part.Part.{Part}
use Rattle.erm_machine.specs.Step.{part_after}
use Rattle.erm_machine.specs.Words.{put}
use Rattle.erm_core.specs.Cores.{shared_of, parts_of}
use Rattle.erm_seat.specs.Parts.{part_of}
use Rattle.erm_machine.specs.Core.{Object}
use Rattle.erm_seat.specs.Kinds.{cells_in, object_in}
use Rattle.erm_seat.specs.Rooms.{Leaves}
use Rattle.erm_core.proofs.Seats.{numbered_at, numbered_set, promised_set, promise_after, flushes_after, seats_leave}
use Rattle.erm_core.proofs.Tables.{parts_set, parts_at, parts_here, put_same_value, object_there}
use Rattle.erm_core.proofs.state.State.turn.Goals as goal

within : (len k bound n : ℕ) → len ≡ n → len ≡ bound → k < bound → k < n
within len k bound n a b h = omega arith

below : (n m bound : ℕ) → m ≡ n → n < bound → m < bound
below n m bound e h = omega arith

pub returns-clause-after : goal.returns-clause-after
returns-clause-after c =
    let s = c.args.self.now in
    let inside = within s.seats.len c.args.seat ANNOUNCERS (length s.seats.items) s.seats.ok.0 s.all_seats c.requires.seat in
    let there = within s.objects.len c.object_of_kind-oid.result OBJECT_LIMIT (length s.objects.items) s.objects.ok.0 s.all_objects
    (below _ c.object_of_kind-oid.result OBJECT_LIMIT c.object_of_kind-oid.ensures c.requires.known) in
    ap (λ (z : Part). part_after c.args.seat c.args.kind c.args.found (shared_of s) z) (parts_at s.run s.opening s.seats.items c.args.seat c.index_mut.result.now inside c.index_mut.ensures.value)
    ∙ c.turn.ensures.turn (shared_of s) refl (object_there s.objects.items _ c.object_of_kind-oid.result c.index.result.now c.object_of_kind-oid.ensures there c.index.ensures)
    ∙ ap (λ (z : Part). if c.turn.result then Some z else None) (sym (parts_here s.run s.opening s.seats.items c.args.seat c.turn.new.self inside))

pub returns-clause-seats : goal.returns-clause-seats
returns-clause-seats c = λ _.
    let s = c.args.self.now in
    let inside = within s.seats.len c.args.seat ANNOUNCERS (length s.seats.items) s.seats.ok.0 s.all_seats c.requires.seat in
    parts_set s.run s.opening s.seats.items c.args.seat c.turn.new.self inside
    ∙ ap (λ (z : Part). put (parts_of s.run s.opening s.seats.items) c.args.seat z) (sym (parts_here s.run s.opening s.seats.items c.args.seat c.turn.new.self inside))

pub returns-clause-kept : goal.returns-clause-kept
returns-clause-kept c = λ failed.
    let s = c.args.self.now in
    let inside = within s.seats.len c.args.seat ANNOUNCERS (length s.seats.items) s.seats.ok.0 s.all_seats c.requires.seat in
    parts_set s.run s.opening s.seats.items c.args.seat c.turn.new.self inside
    ∙ put_same_value (parts_of s.run s.opening s.seats.items) c.args.seat (part_of c.turn.new.self)
    (parts_at s.run s.opening s.seats.items c.args.seat c.index_mut.result.now inside c.index_mut.ensures.value ∙ sym (c.turn.ensures.kept failed))

pub turn-requires-clause-own : goal.turn-requires-clause-own
turn-requires-clause-own c =
    let s = c.args.self.now in
    let inside = within s.seats.len c.args.seat ANNOUNCERS (length s.seats.items) s.seats.ok.0 s.all_seats c.requires.seat in
    numbered_at s.seats.items c.args.seat inside c.index_mut.result.now s.numbered c.index_mut.ensures.value

pub returns-clause-promised : goal.returns-clause-promised
returns-clause-promised c =
    let s = c.args.self.now in
    let inside = within s.seats.len c.args.seat ANNOUNCERS (length s.seats.items) s.seats.ok.0 s.all_seats c.requires.seat in
    let sum = promised_set s.seats.items c.args.seat inside c.index_mut.result.now c.turn.new.self c.index_mut.ensures.value in
    let less = promise_after c.args.kind _ c.turn.result c.index_mut.result.now c.turn.new.self c.turn.ensures.room in
    omega (arith, sum, less)

pub returns-clause-left : goal.returns-clause-left
returns-clause-left c =
    let s = c.args.self.now in
    let inside = within s.seats.len c.args.seat ANNOUNCERS (length s.seats.items) s.seats.ok.0 s.all_seats c.requires.seat in
    let there = within s.objects.len c.object_of_kind-oid.result OBJECT_LIMIT (length s.objects.items) s.objects.ok.0 s.all_objects
    (below _ c.object_of_kind-oid.result OBJECT_LIMIT c.object_of_kind-oid.ensures c.requires.known) in
    let is = object_there s.objects.items (object_in c.args.kind) c.object_of_kind-oid.result c.index.result.now c.object_of_kind-oid.ensures there c.index.ensures in
    seats_leave s.seats.items c.args.seat inside c.args.kind _ c.turn.result c.index_mut.result.now c.turn.new.self c.index_mut.ensures.value
    (subst (λ (o : Object). Leaves c.args.kind (cells_in c.args.kind o) c.turn.result c.index_mut.result.now c.turn.new.self) (sym is) c.turn.ensures.room)

pub invariant_of-self-clause-numbered : goal.invariant_of-self-clause-numbered
invariant_of-self-clause-numbered c =
    let s = c.args.self.now in
    let inside = within s.seats.len c.args.seat ANNOUNCERS (length s.seats.items) s.seats.ok.0 s.all_seats c.requires.seat in
    numbered_set s.seats.items c.args.seat inside c.turn.new.self s.numbered
    (flushes_after c.args.kind _ c.turn.result c.index_mut.result.now c.turn.new.self c.turn.ensures.room
    ∙ numbered_at s.seats.items c.args.seat inside c.index_mut.result.now s.numbered c.index_mut.ensures.value)

pub invariant_of-self-clause-log_room : goal.invariant_of-self-clause-log_room
invariant_of-self-clause-log_room c =
    let s = c.args.self.now in
    let inside = within s.seats.len c.args.seat ANNOUNCERS (length s.seats.items) s.seats.ok.0 s.all_seats c.requires.seat in
    let sum = promised_set s.seats.items c.args.seat inside c.index_mut.result.now c.turn.new.self c.index_mut.ensures.value in
    let less = promise_after c.args.kind _ c.turn.result c.index_mut.result.now c.turn.new.self c.turn.ensures.room in
    let room = s.log_room in
    omega (arith, sum, less, room)
