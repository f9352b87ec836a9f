use Rattle.std.proofs.Common.{◌≡◌, ◌<◌, ℕ, length, Some, ap, refl, sym, subst, ◌∙◌, arith}
use Rattle.erm_machine.specs.declared.event.Kind.TheVariants as kind
use Rattle.erm_machine.specs.declared.event.TailUse.TheVariants as purpose
use Rattle.erm_machine.specs.declared.limits.TheConstants.{LAST_NUMBER, STOP}
use Rattle.erm_machine.specs.declared.part.Part.{Part}
use Rattle.erm_machine.specs.Step.{after_event}
use Rattle.erm_model.specs.declared.outcome.Phase.TheVariants as phase
use Rattle.erm_core.specs.declared.need.Need.TheVariants as need
use Rattle.erm_core.specs.Cores.{core_of}
use Rattle.erm_core_view.specs.Views.{IsQuiet, session_of, view_of}
use Rattle.erm_world.specs.Calls.{DidBegin}
use Rattle.erm_world.specs.World.{IsSession, View, phase_at}
use Rattle.erm_lists.specs.Snapshots.{HasJustBegun}
use Rattle.erm_lists.specs.Stands.{lists_view}
use Rattle.erm_core_steps.specs.Steps.{IsTaken, found_in}
use Rattle.erm_core_steps.proofs.Beginnings.{announce_taken, begin_done, begun_at, first_taken, idle_seat, is_announced, log_ends, not_idle, numbers_over, second_taken}
use Rattle.erm_lists.proofs.SafeBegins.{just_begun}
use Rattle.erm_lists.proofs.lists.Lists.begin.Goals as goal

pub number-requires : goal.number-requires
number-requires g c =
    let seat = c.args.seat in
    let sessions = c.has_room.new.self.sessions in
    let before = core_of c.has_room.new.self.state in
    let stands = c.has_room.ensures.stands in
    let session = subst (λ (v : View). IsSession v seat) (sym c.has_room.ensures.view) c.requires.session in
    let idle = subst (λ (v : View). phase_at v seat ≡ phase.Idle) (sym c.has_room.ensures.view) c.requires.idle in
    let at = idle_seat sessions seat before stands.quiet session idle in
    record { session = at.session }

pub returns-then-number-ge-LAST_NUMBER-clause-err : goal.returns-then-number-ge-LAST_NUMBER-clause-err
returns-then-number-ge-LAST_NUMBER-clause-err g c =
    let seat = c.args.seat in
    let sessions = c.has_room.new.self.sessions in
    let before = core_of c.has_room.new.self.state in
    let stands = c.has_room.ensures.stands in
    let session = subst (λ (v : View). IsSession v seat) (sym c.has_room.ensures.view) c.requires.session in
    let idle = subst (λ (v : View). phase_at v seat ≡ phase.Idle) (sym c.has_room.ensures.view) c.requires.idle in
    let at = idle_seat sessions seat before stands.quiet session idle in
    let all = numbers_over seat before stands.sound.sound at in
    let same : length (session_of (before.seats seat)).over ≡ length ((lists_view c.args.self.now).session seat).over = ap (λ (v : View). length (v.session seat).over) c.has_room.ensures.view in
    let is = c.number.ensures in
    let many = c.if-number-ge-LAST_NUMBER.true in
    let small = c.number.type_inv in
    (c.has_room.ensures.view, omega (arith, all, same, is, many, small))

pub take-requires-clause-room : goal.take-requires-clause-room
take-requires-clause-room g c =
    c.rooms_serve.ensures.call c.has_room.new.self.state c.args.seat need.Begin (kind.LoadTail purpose.Begin) (c.has_room.ensures.room c.if-not-has_room.false) refl

pub take-requires-clause-taken : goal.take-requires-clause-taken
take-requires-clause-taken g c =
    let seat = c.args.seat in
    let sessions = c.has_room.new.self.sessions in
    let before = core_of c.has_room.new.self.state in
    let stands = c.has_room.ensures.stands in
    let session = subst (λ (v : View). IsSession v seat) (sym c.has_room.ensures.view) c.requires.session in
    let idle = subst (λ (v : View). phase_at v seat ≡ phase.Idle) (sym c.has_room.ensures.view) c.requires.idle in
    let at = idle_seat sessions seat before stands.quiet session idle in
    let is = c.number.ensures in
    let few = c.if-number-ge-LAST_NUMBER.false in
    let less : (before.seats seat).number < LAST_NUMBER = omega (arith, is, few) in
    first_taken seat before at less

pub returns-then-tail-ge-STOP-clause-stands : goal.returns-then-tail-ge-STOP-clause-stands
returns-then-tail-ge-STOP-clause-stands g c =
    let seat = c.args.seat in
    let sessions = c.has_room.new.self.sessions in
    let before = core_of c.has_room.new.self.state in
    let stands = c.has_room.ensures.stands in
    let session = subst (λ (v : View). IsSession v seat) (sym c.has_room.ensures.view) c.requires.session in
    let idle = subst (λ (v : View). phase_at v seat ≡ phase.Idle) (sym c.has_room.ensures.view) c.requires.idle in
    let at = idle_seat sessions seat before stands.quiet session idle in
    let is = c.number.ensures in
    let few = c.if-number-ge-LAST_NUMBER.false in
    let less : (before.seats seat).number < LAST_NUMBER = omega (arith, is, few) in
    let one = core_of c.take.new.self.state in
    let tail : c.found-tail.result ≡ before.shared.tail = c.found-tail.ensures ∙ ap found_in c.take.ensures.answer in
    let high = c.if-tail-ge-STOP.true in
    let ended = log_ends sessions seat before one stands.sound.sound stands.quiet session at less (omega (arith, high, tail)) c.take.ensures.after in
    record { sound = c.take.ensures.sound; quiet = subst (λ (n : ℕ). IsQuiet n one) (sym c.take.ensures.sessions) ended.0 }

pub returns-then-tail-ge-STOP-clause-err : goal.returns-then-tail-ge-STOP-clause-err
returns-then-tail-ge-STOP-clause-err g c =
    let seat = c.args.seat in
    let sessions = c.has_room.new.self.sessions in
    let before = core_of c.has_room.new.self.state in
    let stands = c.has_room.ensures.stands in
    let session = subst (λ (v : View). IsSession v seat) (sym c.has_room.ensures.view) c.requires.session in
    let idle = subst (λ (v : View). phase_at v seat ≡ phase.Idle) (sym c.has_room.ensures.view) c.requires.idle in
    let at = idle_seat sessions seat before stands.quiet session idle in
    let is = c.number.ensures in
    let few = c.if-number-ge-LAST_NUMBER.false in
    let less : (before.seats seat).number < LAST_NUMBER = omega (arith, is, few) in
    let all = numbers_over seat before stands.sound.sound at in
    let same : length (session_of (before.seats seat)).over ≡ length ((lists_view c.args.self.now).session seat).over = ap (λ (v : View). length (v.session seat).over) c.has_room.ensures.view in
    let one = core_of c.take.new.self.state in
    let tail : c.found-tail.result ≡ before.shared.tail = c.found-tail.ensures ∙ ap found_in c.take.ensures.answer in
    let high = c.if-tail-ge-STOP.true in
    let ended = log_ends sessions seat before one stands.sound.sound stands.quiet session at less (omega (arith, high, tail)) c.take.ensures.after in (
      subst (λ (n : ℕ). view_of n one ≡ lists_view c.args.self.now) (sym c.take.ensures.sessions) (ended.1 ∙ c.has_room.ensures.view),
      omega (arith, all, same, is, few),
      tail ∙ ap (λ (v : View). v.tail) c.has_room.ensures.view,
      high,
    )

pub go-requires-clause-taken : goal.go-requires-clause-taken
go-requires-clause-taken g c =
    let seat = c.args.seat in
    let sessions = c.has_room.new.self.sessions in
    let before = core_of c.has_room.new.self.state in
    let stands = c.has_room.ensures.stands in
    let session = subst (λ (v : View). IsSession v seat) (sym c.has_room.ensures.view) c.requires.session in
    let idle = subst (λ (v : View). phase_at v seat ≡ phase.Idle) (sym c.has_room.ensures.view) c.requires.idle in
    let at = idle_seat sessions seat before stands.quiet session idle in
    let is = c.number.ensures in
    let few = c.if-number-ge-LAST_NUMBER.false in
    let less : (before.seats seat).number < LAST_NUMBER = omega (arith, is, few) in
    let one = core_of c.take.new.self.state in
    let tail : c.found-tail.result ≡ before.shared.tail = c.found-tail.ensures ∙ ap found_in c.take.ensures.answer in
    let below = c.if-tail-ge-STOP.false in
    let low : before.shared.tail < STOP = omega (arith, below, tail) in
    subst (λ (n : ℕ). IsTaken one seat (kind.StoreBegin n)) (sym tail)
    (announce_taken seat before.shared.tail one (ap (λ (y : Part). y.place) (begun_at seat before one at less low c.take.ensures.after)))

pub take-requires-2-clause-room : goal.take-requires-2-clause-room
take-requires-2-clause-room g c =
    let seat = c.args.seat in
    let sessions = c.has_room.new.self.sessions in
    let before = core_of c.has_room.new.self.state in
    let stands = c.has_room.ensures.stands in
    let session = subst (λ (v : View). IsSession v seat) (sym c.has_room.ensures.view) c.requires.session in
    let idle = subst (λ (v : View). phase_at v seat ≡ phase.Idle) (sym c.has_room.ensures.view) c.requires.idle in
    let at = idle_seat sessions seat before stands.quiet session idle in
    let is = c.number.ensures in
    let few = c.if-number-ge-LAST_NUMBER.false in
    let less : (before.seats seat).number < LAST_NUMBER = omega (arith, is, few) in
    let one = core_of c.take.new.self.state in
    let tail : c.found-tail.result ≡ before.shared.tail = c.found-tail.ensures ∙ ap found_in c.take.ensures.answer in
    let below = c.if-tail-ge-STOP.false in
    let low : before.shared.tail < STOP = omega (arith, below, tail) in
    let two = core_of c.go.new.self.state in
    let announced : after_event one seat (kind.StoreBegin before.shared.tail) ≡ Some two =
    subst (λ (n : ℕ). after_event one seat (kind.StoreBegin n) ≡ Some two) tail c.go.ensures.after
    in
    let come = is_announced seat before one two at less low c.take.ensures.after announced in
    c.rooms_serve.ensures.second c.go.new.self.state seat (not_idle (two.seats seat).place before.shared.tail come.place)

pub take-requires-2-clause-taken : goal.take-requires-2-clause-taken
take-requires-2-clause-taken g c =
    let seat = c.args.seat in
    let sessions = c.has_room.new.self.sessions in
    let before = core_of c.has_room.new.self.state in
    let stands = c.has_room.ensures.stands in
    let session = subst (λ (v : View). IsSession v seat) (sym c.has_room.ensures.view) c.requires.session in
    let idle = subst (λ (v : View). phase_at v seat ≡ phase.Idle) (sym c.has_room.ensures.view) c.requires.idle in
    let at = idle_seat sessions seat before stands.quiet session idle in
    let is = c.number.ensures in
    let few = c.if-number-ge-LAST_NUMBER.false in
    let less : (before.seats seat).number < LAST_NUMBER = omega (arith, is, few) in
    let one = core_of c.take.new.self.state in
    let tail : c.found-tail.result ≡ before.shared.tail = c.found-tail.ensures ∙ ap found_in c.take.ensures.answer in
    let below = c.if-tail-ge-STOP.false in
    let low : before.shared.tail < STOP = omega (arith, below, tail) in
    let two = core_of c.go.new.self.state in
    let announced : after_event one seat (kind.StoreBegin before.shared.tail) ≡ Some two =
    subst (λ (n : ℕ). after_event one seat (kind.StoreBegin n) ≡ Some two) tail c.go.ensures.after
    in
    let come = is_announced seat before one two at less low c.take.ensures.after announced in
    let number = come.number in
    second_taken seat before.shared.tail two come.place (omega (arith, number, less))

pub returns-clause-stands : goal.returns-clause-stands
returns-clause-stands g c =
    let seat = c.args.seat in
    let sessions = c.has_room.new.self.sessions in
    let before = core_of c.has_room.new.self.state in
    let stands = c.has_room.ensures.stands in
    let session = subst (λ (v : View). IsSession v seat) (sym c.has_room.ensures.view) c.requires.session in
    let idle = subst (λ (v : View). phase_at v seat ≡ phase.Idle) (sym c.has_room.ensures.view) c.requires.idle in
    let at = idle_seat sessions seat before stands.quiet session idle in
    let is = c.number.ensures in
    let few = c.if-number-ge-LAST_NUMBER.false in
    let less : (before.seats seat).number < LAST_NUMBER = omega (arith, is, few) in
    let one = core_of c.take.new.self.state in
    let tail : c.found-tail.result ≡ before.shared.tail = c.found-tail.ensures ∙ ap found_in c.take.ensures.answer in
    let below = c.if-tail-ge-STOP.false in
    let low : before.shared.tail < STOP = omega (arith, below, tail) in
    let two = core_of c.go.new.self.state in
    let announced : after_event one seat (kind.StoreBegin before.shared.tail) ≡ Some two =
    subst (λ (n : ℕ). after_event one seat (kind.StoreBegin n) ≡ Some two) tail c.go.ensures.after
    in
    let come = is_announced seat before one two at less low c.take.ensures.after announced in
    let after = core_of c.take-2.new.self.state in
    let one_world : c.take-2.new.self.sessions ≡ sessions = c.take-2.ensures.sessions ∙ c.go.ensures.sessions ∙ c.take.ensures.sessions in
    let done =
    begin_done sessions seat before one two after stands.sound.sound c.take.ensures.sound.sound c.go.ensures.sound.sound stands.quiet session at less low
    c.take.ensures.after announced c.take-2.ensures.after
    in
    record { sound = c.take-2.ensures.sound; quiet = subst (λ (n : ℕ). IsQuiet n after) (sym one_world) done.0 }

pub returns-clause-ok : goal.returns-clause-ok
returns-clause-ok g c =
    let seat = c.args.seat in
    let sessions = c.has_room.new.self.sessions in
    let before = core_of c.has_room.new.self.state in
    let stands = c.has_room.ensures.stands in
    let session = subst (λ (v : View). IsSession v seat) (sym c.has_room.ensures.view) c.requires.session in
    let idle = subst (λ (v : View). phase_at v seat ≡ phase.Idle) (sym c.has_room.ensures.view) c.requires.idle in
    let at = idle_seat sessions seat before stands.quiet session idle in
    let is = c.number.ensures in
    let few = c.if-number-ge-LAST_NUMBER.false in
    let less : (before.seats seat).number < LAST_NUMBER = omega (arith, is, few) in
    let one = core_of c.take.new.self.state in
    let tail : c.found-tail.result ≡ before.shared.tail = c.found-tail.ensures ∙ ap found_in c.take.ensures.answer in
    let below = c.if-tail-ge-STOP.false in
    let low : before.shared.tail < STOP = omega (arith, below, tail) in
    let two = core_of c.go.new.self.state in
    let announced : after_event one seat (kind.StoreBegin before.shared.tail) ≡ Some two =
    subst (λ (n : ℕ). after_event one seat (kind.StoreBegin n) ≡ Some two) tail c.go.ensures.after
    in
    let come = is_announced seat before one two at less low c.take.ensures.after announced in
    let after = core_of c.take-2.new.self.state in
    let one_world : c.take-2.new.self.sessions ≡ sessions = c.take-2.ensures.sessions ∙ c.go.ensures.sessions ∙ c.take.ensures.sessions in
    let done =
    begin_done sessions seat before one two after stands.sound.sound c.take.ensures.sound.sound c.go.ensures.sound.sound stands.quiet session at less low
    c.take.ensures.after announced c.take-2.ensures.after
    in
    let found : c.found.result ≡ two.shared.tail = c.found.ensures ∙ ap found_in c.take-2.ensures.answer in
    subst (λ (n : ℕ). DidBegin (lists_view c.args.self.now) seat c.found.result (view_of n after)) (sym one_world)
    (subst (λ (v : View). DidBegin v seat c.found.result (view_of sessions after)) c.has_room.ensures.view
    (subst (λ (n : ℕ). DidBegin (view_of sessions before) seat n (view_of sessions after)) (sym found) done.1))

pub returns-clause-begun : goal.returns-clause-begun
returns-clause-begun g c =
    let seat = c.args.seat in
    let sessions = c.has_room.new.self.sessions in
    let before = core_of c.has_room.new.self.state in
    let stands = c.has_room.ensures.stands in
    let session = subst (λ (v : View). IsSession v seat) (sym c.has_room.ensures.view) c.requires.session in
    let idle = subst (λ (v : View). phase_at v seat ≡ phase.Idle) (sym c.has_room.ensures.view) c.requires.idle in
    let at = idle_seat sessions seat before stands.quiet session idle in
    let is = c.number.ensures in
    let few = c.if-number-ge-LAST_NUMBER.false in
    let less : (before.seats seat).number < LAST_NUMBER = omega (arith, is, few) in
    let one = core_of c.take.new.self.state in
    let tail : c.found-tail.result ≡ before.shared.tail = c.found-tail.ensures ∙ ap found_in c.take.ensures.answer in
    let below = c.if-tail-ge-STOP.false in
    let low : before.shared.tail < STOP = omega (arith, below, tail) in
    let two = core_of c.go.new.self.state in
    let announced : after_event one seat (kind.StoreBegin before.shared.tail) ≡ Some two =
    subst (λ (n : ℕ). after_event one seat (kind.StoreBegin n) ≡ Some two) tail c.go.ensures.after
    in
    let come = is_announced seat before one two at less low c.take.ensures.after announced in
    let after = core_of c.take-2.new.self.state in
    let done =
    begin_done sessions seat before one two after stands.sound.sound c.take.ensures.sound.sound c.go.ensures.sound.sound stands.quiet session at less low
    c.take.ensures.after announced c.take-2.ensures.after
    in
    let found : c.found.result ≡ two.shared.tail = c.found.ensures ∙ ap found_in c.take-2.ensures.answer in
    let same : two.shared.tail ≡ before.shared.tail = done.1.2 in
    let number = come.number in
    let opened = stands.quiet.opened in
    let up = stands.quiet.flushed.0 in
    let end = stands.quiet.flushed.1 in
    subst (λ (n : ℕ). HasJustBegun seat n after) (sym found)
    (just_begun seat before.shared.tail two after at.session come.place (omega (arith, number, less)) (omega (arith, same, opened, up, end)) c.take-2.ensures.after)
