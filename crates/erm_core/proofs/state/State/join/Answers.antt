use Rattle.std.proofs.Common.{ℕ, ◌≡◌, ◌<◌, true, false, length, ap, ◌∙◌, sym, refl, arith}
use Rattle.std.proofs.lemmas.Bool.{ne_eqb}
use Rattle.erm_machine.specs.declared.limits.TheConstants.{ANNOUNCERS}
use Rattle.erm_machine.specs.declared.part.Part.{Part}
use Rattle.erm_machine.specs.Life.{join}
use Rattle.erm_core.specs.Cores.{core_of, parts_of}
use Rattle.erm_seat.specs.Parts.{part_of}
use Rattle.erm_machine.specs.declared.event.Kind.TheVariants as kind
use Rattle.erm_core.proofs.Rooms.{kept_room, moved_leaves}
use Rattle.erm_core.proofs.Seats.{numbered_at, numbered_set}
use Rattle.erm_core.proofs.Steps.{join_is, join_step, core_path}
use Rattle.erm_core.proofs.Tables.{parts_set, parts_at, put_same_value}
use Rattle.erm_core.proofs.state.State.join.Goals as goal

within : (len k bound n : ℕ) → len ≡ n → len ≡ bound → k < bound → k < n
within len k bound n a b h = omega arith

pub returns-then-not-join-clause-step : goal.returns-then-not-join-clause-step
returns-then-not-join-clause-step c =
    let s = c.args.self.now in
    let inside = within s.seats.len c.args.seat ANNOUNCERS (length s.seats.items) s.seats.ok.0 s.all_seats c.requires.seat in
    let at = parts_at s.run s.opening s.seats.items c.args.seat c.index_mut.result.now inside c.index_mut.ensures.value in
    join_step (core_of s) c.args.seat c.args.other false (part_of c.join.new.self) _ (ne_eqb c.args.other c.args.seat c.if-other-seat.false)
    (ap (λ (x : Part). join x ((core_of s).seats c.args.other)) at
    ∙ sym (join_is (part_of c.index_mut.result.now) ((core_of s).seats c.args.other) c.sight-place.result.0 c.sight-place.result.1 c.sight-place.ensures.place c.sight-place.ensures.seen)
    ∙ c.if-not-join.ensures.turn)
    (core_path _ _ refl
    (parts_set s.run s.opening s.seats.items c.args.seat c.join.new.self inside
    ∙ put_same_value (parts_of s.run s.opening s.seats.items) c.args.seat (part_of c.join.new.self) (at ∙ sym (c.if-not-join.ensures.kept refl))))

pub returns-clause-step : goal.returns-clause-step
returns-clause-step c =
    let s = c.args.self.now in
    let inside = within s.seats.len c.args.seat ANNOUNCERS (length s.seats.items) s.seats.ok.0 s.all_seats c.requires.seat in
    let at = parts_at s.run s.opening s.seats.items c.args.seat c.index_mut.result.now inside c.index_mut.ensures.value in
    join_step (core_of s) c.args.seat c.args.other true (part_of c.join.new.self) _ (ne_eqb c.args.other c.args.seat c.if-other-seat.false)
    (ap (λ (x : Part). join x ((core_of s).seats c.args.other)) at
    ∙ sym (join_is (part_of c.index_mut.result.now) ((core_of s).seats c.args.other) c.sight-place.result.0 c.sight-place.result.1 c.sight-place.ensures.place c.sight-place.ensures.seen)
    ∙ c.if-not-join.ensures.turn)
    (core_path _ _ refl (parts_set s.run s.opening s.seats.items c.args.seat c.join.new.self inside))

pub invariant_of-self-clause-numbered : goal.invariant_of-self-clause-numbered
invariant_of-self-clause-numbered c =
    let s = c.args.self.now in
    let inside = within s.seats.len c.args.seat ANNOUNCERS (length s.seats.items) s.seats.ok.0 s.all_seats c.requires.seat in
    numbered_set s.seats.items c.args.seat inside c.join.new.self s.numbered
    (c.join.ensures.room.seat.flushes ∙ numbered_at s.seats.items c.args.seat inside c.index_mut.result.now s.numbered c.index_mut.ensures.value)

pub invariant_of-self-clause-log_room : goal.invariant_of-self-clause-log_room
invariant_of-self-clause-log_room c =
    let s = c.args.self.now in
    let inside = within s.seats.len c.args.seat ANNOUNCERS (length s.seats.items) s.seats.ok.0 s.all_seats c.requires.seat in
    kept_room s c.args.seat c.index_mut.result.now c.join.new.self inside c.index_mut.ensures.value c.join.ensures.room.promised

pub returns-then-not-join-clause-left : goal.returns-then-not-join-clause-left
returns-then-not-join-clause-left c =
    let s = c.args.self.now in
    let inside = within s.seats.len c.args.seat ANNOUNCERS (length s.seats.items) s.seats.ok.0 s.all_seats c.requires.seat in
    moved_leaves s _ c.args.seat c.args.seat (kind.Join c.args.other) c.index_mut.result.now c.join.new.self refl refl inside c.index_mut.ensures.value c.join.ensures.room refl

pub returns-clause-left : goal.returns-clause-left
returns-clause-left c =
    let s = c.args.self.now in
    let inside = within s.seats.len c.args.seat ANNOUNCERS (length s.seats.items) s.seats.ok.0 s.all_seats c.requires.seat in
    moved_leaves s _ c.args.seat c.args.seat (kind.Join c.args.other) c.index_mut.result.now c.join.new.self refl refl inside c.index_mut.ensures.value c.join.ensures.room refl
