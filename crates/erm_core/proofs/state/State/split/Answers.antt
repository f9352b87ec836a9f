use Rattle.std.proofs.Common.{ℕ, ◌≡◌, ◌<◌, true, false, not, ◌&&◌, eqb, length, ap, ◌∙◌, sym, refl, arith}
use Rattle.std.proofs.lemmas.Bool.{ne_eqb, and_from, not_from_false}
use Rattle.erm_machine.specs.declared.part.Part.{Part}
use Rattle.erm_machine.specs.declared.limits.TheConstants.{ANNOUNCERS}
use Rattle.erm_machine.specs.Life.{split}
use Rattle.erm_machine.specs.Words.{is_seat}
use Rattle.erm_core.specs.Cores.{core_of, parts_of}
use Rattle.erm_seat.specs.Parts.{part_of}
use Rattle.erm_machine.specs.declared.event.Kind.TheVariants as kind
use Rattle.erm_core.proofs.Rooms.{kept_room, moved_leaves}
use Rattle.erm_core.proofs.Seats.{numbered_at, numbered_set}
use Rattle.erm_core.proofs.Steps.{split_is, split_step, core_path}
use Rattle.erm_core.proofs.Tables.{parts_set, parts_at, put_same_value}
use Rattle.erm_core.proofs.state.State.split.Goals as goal

below : (len other n : ℕ) → len ≡ n → len ≡ ANNOUNCERS → is_seat other ≡ true → other < n
below len other n a b seat = grind arith

tests : (other seat : ℕ) → (other ≡ seat → ⊥) → is_seat other ≡ true → (not (eqb other seat) && is_seat other) ≡ true
tests other seat ne is = and_from (not (eqb other seat)) (is_seat other) (not_from_false (eqb other seat) (ne_eqb other seat ne)) is

pub returns-then-not-split-clause-step : goal.returns-then-not-split-clause-step
returns-then-not-split-clause-step c =
    let s = c.args.self.now in
    let seat : is_seat c.args.other ≡ true = sym c.is_seat.ensures ∙ c.if-not-is_seat.false in
    let inside = below s.seats.len c.args.other (length s.seats.items) s.seats.ok.0 s.all_seats seat in
    let at = parts_at s.run s.opening s.seats.items c.args.other c.index_mut.result.now inside c.index_mut.ensures.value in
    split_step (core_of s) c.args.seat c.args.other false (part_of c.split.new.self) _ (tests c.args.other c.args.seat c.if-other-seat.false seat)
    (ap (λ (x : Part). split ((core_of s).seats c.args.seat) x) at
    ∙ sym (split_is ((core_of s).seats c.args.seat) (part_of c.index_mut.result.now) c.sight-by.result.0 c.sight-by.result.1 c.sight-by.ensures.place c.sight-by.ensures.seen)
    ∙ c.if-not-split.ensures.turn)
    (core_path _ _ refl
    (parts_set s.run s.opening s.seats.items c.args.other c.split.new.self inside
    ∙ put_same_value (parts_of s.run s.opening s.seats.items) c.args.other (part_of c.split.new.self) (at ∙ sym (c.if-not-split.ensures.kept refl))))

pub returns-clause-step : goal.returns-clause-step
returns-clause-step c =
    let s = c.args.self.now in
    let seat : is_seat c.args.other ≡ true = sym c.is_seat.ensures ∙ c.if-not-is_seat.false in
    let inside = below s.seats.len c.args.other (length s.seats.items) s.seats.ok.0 s.all_seats seat in
    let at = parts_at s.run s.opening s.seats.items c.args.other c.index_mut.result.now inside c.index_mut.ensures.value in
    split_step (core_of s) c.args.seat c.args.other true (part_of c.split.new.self) _ (tests c.args.other c.args.seat c.if-other-seat.false seat)
    (ap (λ (x : Part). split ((core_of s).seats c.args.seat) x) at
    ∙ sym (split_is ((core_of s).seats c.args.seat) (part_of c.index_mut.result.now) c.sight-by.result.0 c.sight-by.result.1 c.sight-by.ensures.place c.sight-by.ensures.seen)
    ∙ c.if-not-split.ensures.turn)
    (core_path _ _ refl
    (parts_set s.run s.opening s.seats.items c.args.other c.split.new.self inside))

pub invariant_of-self-clause-numbered : goal.invariant_of-self-clause-numbered
invariant_of-self-clause-numbered c =
    let s = c.args.self.now in
    let seat : is_seat c.args.other ≡ true = sym c.is_seat.ensures ∙ c.if-not-is_seat.false in
    let inside = below s.seats.len c.args.other (length s.seats.items) s.seats.ok.0 s.all_seats seat in
    numbered_set s.seats.items c.args.other inside c.split.new.self s.numbered
    (c.split.ensures.room.seat.flushes ∙ numbered_at s.seats.items c.args.other inside c.index_mut.result.now s.numbered c.index_mut.ensures.value)

pub invariant_of-self-clause-log_room : goal.invariant_of-self-clause-log_room
invariant_of-self-clause-log_room c =
    let s = c.args.self.now in
    let seat : is_seat c.args.other ≡ true = sym c.is_seat.ensures ∙ c.if-not-is_seat.false in
    let inside = below s.seats.len c.args.other (length s.seats.items) s.seats.ok.0 s.all_seats seat in
    kept_room s c.args.other c.index_mut.result.now c.split.new.self inside c.index_mut.ensures.value c.split.ensures.room.promised

pub returns-then-not-split-clause-left : goal.returns-then-not-split-clause-left
returns-then-not-split-clause-left c =
    let s = c.args.self.now in
    let seat : is_seat c.args.other ≡ true = sym c.is_seat.ensures ∙ c.if-not-is_seat.false in
    let inside = below s.seats.len c.args.other (length s.seats.items) s.seats.ok.0 s.all_seats seat in
    moved_leaves s _ c.args.seat c.args.other (kind.Split c.args.other) c.index_mut.result.now c.split.new.self refl refl inside c.index_mut.ensures.value c.split.ensures.room refl

pub returns-clause-left : goal.returns-clause-left
returns-clause-left c =
    let s = c.args.self.now in
    let seat : is_seat c.args.other ≡ true = sym c.is_seat.ensures ∙ c.if-not-is_seat.false in
    let inside = below s.seats.len c.args.other (length s.seats.items) s.seats.ok.0 s.all_seats seat in
    moved_leaves s _ c.args.seat c.args.other (kind.Split c.args.other) c.index_mut.result.now c.split.new.self refl refl inside c.index_mut.ensures.value c.split.ensures.room refl
