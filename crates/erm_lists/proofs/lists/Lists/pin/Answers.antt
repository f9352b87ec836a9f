use Rattle.std.proofs.Common.{◌≡◌, ℕ, Some, ap, refl, sym, subst, ◌∙◌, arith}
use Rattle.erm_machine.specs.declared.event.Kind.TheVariants as kind
use Rattle.erm_machine.specs.declared.limits.TheConstants.{FLUSH_SEAT}
use Rattle.erm_machine.specs.Step.{after_event}
use Rattle.erm_core.specs.Cores.{core_of}
use Rattle.erm_core_turns.proofs.Pins.{announce_steps, announced_place, begun_place, first_steps, pin_done, second_steps, unpinned}
use Rattle.erm_core_view.specs.Views.{IsQuiet}
use Rattle.erm_lists.specs.Logs.{lists_log}
use Rattle.erm_core_steps.specs.Steps.{IsTaken, found_in}
use Rattle.erm_lists.specs.Stands.{Stands}
use Rattle.erm_lists.proofs.Turned.{turned_keeps, turned_log}
use Rattle.erm_lists.proofs.lists.Lists.pin.Goals as goal

pub take-requires-clause-room : goal.take-requires-clause-room
take-requires-clause-room g c = c.rooms_serve.ensures.pin c.args.self.now.state FLUSH_SEAT refl

pub take-requires-clause-taken : goal.take-requires-clause-taken
take-requires-clause-taken g c =
    let before = core_of c.args.self.now.state in
    let stands = c.requires.stands in
    (_, first_steps before (unpinned c.args.self.now.sessions before stands.sound.sound stands.quiet c.requires.unpinned))

pub go-requires-clause-taken : goal.go-requires-clause-taken
go-requires-clause-taken g c =
    let before = core_of c.args.self.now.state in
    let one = core_of c.take.new.self.state in
    let stands = c.requires.stands in
    let idle = unpinned c.args.self.now.sessions before stands.sound.sound stands.quiet c.requires.unpinned in
    let tail : c.found-tail.result ≡ before.shared.tail = c.found-tail.ensures ∙ ap found_in c.take.ensures.answer in
    subst (λ (n : ℕ). IsTaken one FLUSH_SEAT (kind.StoreBegin n)) (sym tail) (_, announce_steps one before.shared.tail (begun_place before one idle c.take.ensures.after))

pub take-requires-2-clause-room : goal.take-requires-2-clause-room
take-requires-2-clause-room g c = c.rooms_serve.ensures.pin c.go.new.self.state FLUSH_SEAT refl

pub take-requires-2-clause-taken : goal.take-requires-2-clause-taken
take-requires-2-clause-taken g c =
    let before = core_of c.args.self.now.state in
    let one = core_of c.take.new.self.state in
    let two = core_of c.go.new.self.state in
    let stands = c.requires.stands in
    let idle = unpinned c.args.self.now.sessions before stands.sound.sound stands.quiet c.requires.unpinned in
    let tail : c.found-tail.result ≡ before.shared.tail = c.found-tail.ensures ∙ ap found_in c.take.ensures.answer in
    let second : after_event one FLUSH_SEAT (kind.StoreBegin before.shared.tail) ≡ Some two = subst (λ (n : ℕ). after_event one FLUSH_SEAT (kind.StoreBegin n) ≡ Some two) tail c.go.ensures.after in
    (_, second_steps two before.shared.tail (announced_place one two before.shared.tail (begun_place before one idle c.take.ensures.after) second))

pub returns : goal.returns
returns g c =
    let sessions = c.args.self.now.sessions in
    let before = core_of c.args.self.now.state in
    let one = core_of c.take.new.self.state in
    let two = core_of c.go.new.self.state in
    let after = core_of c.take-2.new.self.state in
    let stands = c.requires.stands in
    let idle = unpinned sessions before stands.sound.sound stands.quiet c.requires.unpinned in
    let tail : c.found-tail.result ≡ before.shared.tail = c.found-tail.ensures ∙ ap found_in c.take.ensures.answer in
    let second : after_event one FLUSH_SEAT (kind.StoreBegin before.shared.tail) ≡ Some two = subst (λ (n : ℕ). after_event one FLUSH_SEAT (kind.StoreBegin n) ≡ Some two) tail c.go.ensures.after in
    let done = pin_done sessions before one two after stands.quiet idle c.take.ensures.after second c.take-2.ensures.after in
    let same : c.take-2.new.self.sessions ≡ sessions = c.take-2.ensures.sessions ∙ c.go.ensures.sessions ∙ c.take.ensures.sessions in
    let now : Stands g.L.RowLaw.law c.take-2.new.self = record { sound = c.take-2.ensures.sound; quiet = subst (λ (n : ℕ). IsQuiet n after) (sym same) done.1 } in
    let place : c.found.result ≡ before.shared.tail = c.found.ensures ∙ ap found_in c.take-2.ensures.answer ∙ done.3 in
    let log : lists_log c.take-2.new.self ≡ record (lists_log c.args.self.now) { pinned = Some before.shared.tail } = turned_log c.args.self.now c.take-2.new.self _ same done.2 in
    record {
      stands = now;
      keeps = turned_keeps g.L.RowLaw.law c.args.self.now c.take-2.new.self same stands.quiet done.0 now;
      place = omega (arith, place);
      pinned = log ∙ ap (λ (n : ℕ). record (lists_log c.args.self.now) { tail = n; pinned = Some n }) (sym place);
    }
