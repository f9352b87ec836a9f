use Rattle.std.proofs.Common.{ℕ, ◌≡◌, true, false, Option, ap, ◌∙◌, sym, refl, arith}
use Rattle.erm_core.proofs.Objects.{objects_stay}
use Rattle.erm_machine.specs.declared.event.Answer.{Answer}
use Rattle.erm_machine.specs.declared.event.Kind.{Kind}
use Rattle.erm_machine.specs.declared.part.Part.{Part}
use Rattle.erm_machine.specs.declared.version.Version.{Version}
use Rattle.erm_machine.specs.Core.{Core, Shared}
use Rattle.erm_machine.specs.Step.{shared_after, is_known}
use Rattle.erm_machine.specs.Words.{put}
use Rattle.erm_core.specs.declared.state.State.{State}
use Rattle.erm_core.specs.Cores.{core_of, shared_of, shared_with, added_in}
use Rattle.erm_core.proofs.Rooms.{change_room, leaves_room, room_stays}
use Rattle.erm_core.proofs.Steps.{taken_step, failed_step, refused_none, unknown_none, core_path, fits_after}
use Rattle.erm_core.proofs.Tables.{shared_by_version}
use Rattle.erm_core.proofs.state.State.step_adding.Goals as goal

-- the whole state after the seat's step and the change of what is shared
state_after : (s t u : State) (p : ℕ) (k : Kind) (found : ℕ) (v : Option Version) (y : Part) → shared_of t ≡ shared_of s →
    (core_of t).seats ≡ put (core_of s).seats p y → v ≡ added_in k ((core_of s).seats p) →
    core_of u ≡ record (core_of t) { shared = shared_with p k found v (shared_of t) } →
    core_of u ≡ record { shared = shared_after p k found ((core_of s).seats p) (shared_of s); seats = put (core_of s).seats p y }
state_after s t u p k found v y shared seats added changed =
    changed
    ∙ core_path _ _
    (ap (λ (w : Shared). shared_with p k found v w) shared ∙ ap (λ w. shared_with p k found w (shared_of s)) added
    ∙ sym (shared_by_version p k found ((core_of s).seats p) (shared_of s)))
    seats

pub returns-then-not-is_known-clause-step : goal.returns-then-not-is_known-clause-step
returns-then-not-is_known-clause-step c =
    let s = c.args.self.now in
    failed_step (core_of s) c.args.seat c.args.kind (core_of s)
    (unknown_none (core_of s) c.args.seat c.args.kind c.requires.one (sym c.is_known.ensures.known ∙ c.if-not-is_known.true)) refl

pub returns-then-not-turn-clause-step : goal.returns-then-not-turn-clause-step
returns-then-not-turn-clause-step c =
    let s = c.args.self.now in
    let known : is_known c.args.kind ≡ true = sym c.is_known.ensures.known ∙ c.if-not-is_known.false in
    failed_step (core_of s) c.args.seat c.args.kind (core_of c.turn.new.self)
    (refused_none (core_of s) c.args.seat c.args.kind c.word-found.result c.requires.one known c.word-found.ensures c.if-not-turn.ensures.after)
    (core_path (core_of c.turn.new.self) (core_of s) c.turn.ensures.shared (c.if-not-turn.ensures.kept refl))

pub change-requires-clause-room : goal.change-requires-clause-room
change-requires-clause-room c =
    change_room c.args.self.now c.turn.new.self c.args.seat c.args.kind c.word-found.result ((core_of c.turn.new.self).seats c.args.seat) c.requires.sound c.turn.ensures.objects c.turn.ensures.log
    c.if-not-turn.ensures.after c.if-not-turn.ensures.promised c.args.kind refl c.requires.room.shared

pub change-requires-clause-fits : goal.change-requires-clause-fits
change-requires-clause-fits c =
    fits_after c.args.self.now c.turn.new.self c.args.seat c.args.kind c.word-found.result ((core_of c.turn.new.self).seats c.args.seat) c.requires.sound c.word-found.ensures
    c.if-not-turn.ensures.after (ap (λ (t : Shared). t.tail) c.turn.ensures.shared)

pub returns-clause-step : goal.returns-clause-step
returns-clause-step c =
    let s = c.args.self.now in
    let known : is_known c.args.kind ≡ true = sym c.is_known.ensures.known ∙ c.if-not-is_known.false in
    ap (λ (a : Answer). let r : Answer × Core = (a, core_of c.change.new.self) in r) c.told.ensures
    ∙ taken_step (core_of s) c.args.seat c.args.kind c.word-found.result ((core_of c.turn.new.self).seats c.args.seat) (core_of c.change.new.self) c.requires.one known
    c.word-found.ensures c.if-not-turn.ensures.after
    (state_after s c.turn.new.self c.change.new.self c.args.seat c.args.kind c.word-found.result c.args.added.now ((core_of c.turn.new.self).seats c.args.seat)
    c.turn.ensures.shared (c.if-not-turn.ensures.seats refl) c.requires.added c.change.ensures.core)

pub returns-then-not-is_known-clause-left : goal.returns-then-not-is_known-clause-left
returns-then-not-is_known-clause-left c = room_stays c.args.self.now c.args.seat c.args.kind

pub returns-then-not-turn-clause-left : goal.returns-then-not-turn-clause-left
returns-then-not-turn-clause-left c =
    let t = c.turn.new.self in
    leaves_room c.args.self.now t t c.args.seat c.args.kind false c.turn.ensures.objects c.turn.ensures.log refl c.if-not-turn.ensures.left (objects_stay c.args.kind t.objects.items t.objects.items refl)
    (omega arith) refl

pub returns-clause-left : goal.returns-clause-left
returns-clause-left c =
    let len = c.change.ensures.log.len in
    leaves_room c.args.self.now c.turn.new.self c.change.new.self c.args.seat c.args.kind true c.turn.ensures.objects c.turn.ensures.log c.change.ensures.seats c.if-not-turn.ensures.left
    c.change.ensures.objects (omega (arith, len)) c.change.ensures.log.room
