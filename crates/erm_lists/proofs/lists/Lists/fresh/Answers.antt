use Rattle.std.proofs.Common.{◌≡◌, ◌<◌, ℕ, ap, refl, sym, subst, ◌∙◌, arith}
use Rattle.erm_machine.specs.declared.event.Counter.TheVariants.{Objects}
use Rattle.erm_machine.specs.declared.event.Kind.TheVariants as kind
use Rattle.erm_machine.specs.declared.limits.TheConstants.{OBJECT_LIMIT}
use Rattle.erm_model.specs.declared.outcome.Phase.TheVariants as phase
use Rattle.erm_model.specs.declared.row_stop.RowStop.TheVariants.{OidsFull}
use Rattle.erm_machine.specs.Core.{Core}
use Rattle.erm_core.specs.declared.need.Need.TheVariants as need
use Rattle.erm_core.specs.Cores.{core_of}
use Rattle.erm_core_view.specs.Views.{IsQuiet, view_of}
use Rattle.erm_world.specs.Calls.{AreAllMade, DidMake}
use Rattle.erm_world.specs.World.{IsSession, View, phase_at}
use Rattle.erm_lists.specs.Stands.{lists_view}
use Rattle.erm_core_steps.specs.Steps.{found_in}
use Rattle.erm_core_steps.proofs.Numbers.{counter_looked, counter_taken, number_made, number_taken}
use Rattle.erm_core_steps.proofs.Quiet.{active_seat}
use Rattle.erm_lists.proofs.lists.Lists.fresh.Goals as goal

pub go-requires-clause-taken : goal.go-requires-clause-taken
go-requires-clause-taken g c =
    let seat = c.args.seat in
    let sessions = c.has_room.new.self.sessions in
    let before = core_of c.has_room.new.self.state in
    let stands = c.has_room.ensures.stands in
    let session = subst (λ (v : View). IsSession v seat) (sym c.has_room.ensures.view) c.requires.session in
    let active = subst (λ (v : View). phase_at v seat ≡ phase.Active) (sym c.has_room.ensures.view) c.requires.active in
    let at = active_seat sessions seat before stands.quiet session active in
    counter_taken seat before at

pub returns-then-drawn-clause-stands : goal.returns-then-drawn-clause-stands
returns-then-drawn-clause-stands g c =
    let seat = c.args.seat in
    let sessions = c.has_room.new.self.sessions in
    let before = core_of c.has_room.new.self.state in
    let stands = c.has_room.ensures.stands in
    let session = subst (λ (v : View). IsSession v seat) (sym c.has_room.ensures.view) c.requires.session in
    let active = subst (λ (v : View). phase_at v seat ≡ phase.Active) (sym c.has_room.ensures.view) c.requires.active in
    let at = active_seat sessions seat before stands.quiet session active in
    let between = core_of c.go.new.self.state in
    let looked = counter_looked sessions seat before between stands.sound.sound stands.quiet session at c.go.ensures.after in
    record { sound = c.go.ensures.sound; quiet = subst (λ (n : ℕ). IsQuiet n between) (sym c.go.ensures.sessions) looked.quiet }

pub returns-then-drawn-clause-err : goal.returns-then-drawn-clause-err
returns-then-drawn-clause-err g c =
    let seat = c.args.seat in
    let sessions = c.has_room.new.self.sessions in
    let before = core_of c.has_room.new.self.state in
    let stands = c.has_room.ensures.stands in
    let session = subst (λ (v : View). IsSession v seat) (sym c.has_room.ensures.view) c.requires.session in
    let active = subst (λ (v : View). phase_at v seat ≡ phase.Active) (sym c.has_room.ensures.view) c.requires.active in
    let at = active_seat sessions seat before stands.quiet session active in
    let between = core_of c.go.new.self.state in
    let looked = counter_looked sessions seat before between stands.sound.sound stands.quiet session at c.go.ensures.after in
    let many = c.if-drawn.true in
    let drawn : c.found-drawn.result ≡ before.shared.objects_drawn = c.found-drawn.ensures ∙ ap found_in c.go.ensures.answer in
    let made : AreAllMade (view_of sessions before) =
    λ x from known. c.drawn_objects_are_made.ensures sessions x before stands.sound.sound stands.quiet from (omega (arith, known, many, drawn)) (omega (arith, known)) in (
      subst (λ (n : ℕ). view_of n between ≡ lists_view c.args.self.now) (sym c.go.ensures.sessions) (looked.unseen.view ∙ c.has_room.ensures.view),
      (omega (arith, many), omega (arith, drawn, stands.sound.sound.common.counters.objects)),
      subst AreAllMade c.has_room.ensures.view made,
    )

pub take-requires-clause-room : goal.take-requires-clause-room
take-requires-clause-room g c =
    let room =
    c.rooms_last.ensures.own c.has_room.new.self.state c.go.new.self.state c.args.seat (kind.LoadCounter Objects) need.Make c.go.ensures.left tt tt
    (c.has_room.ensures.room c.if-not-has_room.false)
    in
    c.rooms_serve.ensures.call c.go.new.self.state c.args.seat need.Make (kind.AddCounter Objects) room refl

pub take-requires-clause-taken : goal.take-requires-clause-taken
take-requires-clause-taken g c =
    let seat = c.args.seat in
    let sessions = c.has_room.new.self.sessions in
    let before = core_of c.has_room.new.self.state in
    let stands = c.has_room.ensures.stands in
    let session = subst (λ (v : View). IsSession v seat) (sym c.has_room.ensures.view) c.requires.session in
    let active = subst (λ (v : View). phase_at v seat ≡ phase.Active) (sym c.has_room.ensures.view) c.requires.active in
    let at = active_seat sessions seat before stands.quiet session active in
    let between = core_of c.go.new.self.state in
    let looked = counter_looked sessions seat before between stands.sound.sound stands.quiet session at c.go.ensures.after in
    let drawn : c.found-drawn.result ≡ before.shared.objects_drawn = c.found-drawn.ensures ∙ ap found_in c.go.ensures.answer in
    let few = c.if-drawn.false in
    let less : before.shared.objects_drawn < OBJECT_LIMIT = omega (arith, few, drawn) in
    number_taken sessions seat before between looked less

pub returns-clause-stands : goal.returns-clause-stands
returns-clause-stands g c =
    let seat = c.args.seat in
    let sessions = c.has_room.new.self.sessions in
    let before = core_of c.has_room.new.self.state in
    let stands = c.has_room.ensures.stands in
    let session = subst (λ (v : View). IsSession v seat) (sym c.has_room.ensures.view) c.requires.session in
    let active = subst (λ (v : View). phase_at v seat ≡ phase.Active) (sym c.has_room.ensures.view) c.requires.active in
    let at = active_seat sessions seat before stands.quiet session active in
    let between = core_of c.go.new.self.state in
    let looked = counter_looked sessions seat before between stands.sound.sound stands.quiet session at c.go.ensures.after in
    let drawn : c.found-drawn.result ≡ before.shared.objects_drawn = c.found-drawn.ensures ∙ ap found_in c.go.ensures.answer in
    let few = c.if-drawn.false in
    let less : before.shared.objects_drawn < OBJECT_LIMIT = omega (arith, few, drawn) in
    let after = core_of c.take.new.self.state in
    let same : c.take.new.self.sessions ≡ sessions = c.take.ensures.sessions ∙ c.go.ensures.sessions in
    let now = looked.drawn in
    let shows = c.steps_show_what_they_do.ensures.makes seat between after c.go.ensures.sound.sound looked.active.active (omega (arith, less, now)) c.take.ensures.after in
    let made = number_made sessions seat before between after c.go.ensures.sound.sound session looked less c.take.ensures.after shows in
    record { sound = c.take.ensures.sound; quiet = subst (λ (n : ℕ). IsQuiet n after) (sym same) made.0 }

pub returns-clause-ok : goal.returns-clause-ok
returns-clause-ok g c =
    let seat = c.args.seat in
    let sessions = c.has_room.new.self.sessions in
    let before = core_of c.has_room.new.self.state in
    let stands = c.has_room.ensures.stands in
    let session = subst (λ (v : View). IsSession v seat) (sym c.has_room.ensures.view) c.requires.session in
    let active = subst (λ (v : View). phase_at v seat ≡ phase.Active) (sym c.has_room.ensures.view) c.requires.active in
    let at = active_seat sessions seat before stands.quiet session active in
    let between = core_of c.go.new.self.state in
    let looked = counter_looked sessions seat before between stands.sound.sound stands.quiet session at c.go.ensures.after in
    let drawn : c.found-drawn.result ≡ before.shared.objects_drawn = c.found-drawn.ensures ∙ ap found_in c.go.ensures.answer in
    let few = c.if-drawn.false in
    let less : before.shared.objects_drawn < OBJECT_LIMIT = omega (arith, few, drawn) in
    let after = core_of c.take.new.self.state in
    let same : c.take.new.self.sessions ≡ sessions = c.take.ensures.sessions ∙ c.go.ensures.sessions in
    let now = looked.drawn in
    let shows = c.steps_show_what_they_do.ensures.makes seat between after c.go.ensures.sound.sound looked.active.active (omega (arith, less, now)) c.take.ensures.after in
    let made = number_made sessions seat before between after c.go.ensures.sound.sound session looked less c.take.ensures.after shows in
    subst (λ (n : ℕ). DidMake (lists_view c.args.self.now) seat c.found-drawn.result (view_of n after)) (sym same)
    (subst (λ (v : View). DidMake v seat c.found-drawn.result (view_of sessions after)) c.has_room.ensures.view
    (subst (λ (n : ℕ). DidMake (view_of sessions before) seat n (view_of sessions after)) (sym drawn) made.1))

pub returns-then-drawn-clause-drawn : goal.returns-then-drawn-clause-drawn
returns-then-drawn-clause-drawn g c = λ told is.
    let full : OidsFull c.found-drawn.result ≡ OidsFull told = is in
    let same : c.found-drawn.result ≡ told = cc in
    sym same ∙ c.found-drawn.ensures ∙ ap found_in c.go.ensures.answer ∙ ap (λ (d : Core). d.shared.objects_drawn) c.has_room.ensures.core
