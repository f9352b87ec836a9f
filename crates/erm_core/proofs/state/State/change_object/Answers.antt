use Rattle.std.proofs.Common.{ℕ, ◌≡◌, ◌<◌, Some, List, length, slice_get, sym, ap, ◌∙◌, arith}
use Rattle.std.proofs.lemmas.Option.{slice_get-get_or}
use Rattle.erm_machine.specs.declared.event.Kind.{Kind}
use Rattle.erm_machine.specs.declared.event.Kind.TheVariants as kind
use Rattle.erm_machine.specs.declared.limits.TheConstants.{OBJECT_LIMIT}
use Rattle.erm_core.specs.declared.state.State.{State}
use Rattle.erm_core.specs.Rooms.{HasChangeRoom}
use Rattle.erm_kept.specs.Objects.{HasObjectRoom}
use Rattle.erm_seat.specs.Kinds.{object_in}
use Rattle.erm_kept.specs.declared.object.ObjectState.{ObjectState}
use Rattle.erm_machine.specs.Core.{Core, Object, Shared}
use Rattle.erm_core.specs.Cores.{shared_of, parts_of}
use Rattle.erm_kept.specs.Objects.{object_after}
use Rattle.erm_core.proofs.Objects.{objects_leave}
use Rattle.erm_core.proofs.Tables.{objects_set, shared_object}
use Rattle.erm_core.proofs.state.State.change_object.Goals as goal

-- the object has the room that what is shared has
object_room : (s : State) (k : Kind) (oid : ℕ) (o : ObjectState) → oid ≡ object_in k → slice_get s.objects.items oid ≡ Some o → HasChangeRoom s k → HasObjectRoom o k
object_room s (kind.Install n head) oid o named there h = (h.0, h.1 o (ap (λ m. slice_get s.objects.items m) (sym named) ∙ there))
object_room s (kind.Claim n seen number) oid o named there h = h o (ap (λ m. slice_get s.objects.items m) (sym named) ∙ there)
object_room s _ oid o named there h = tt

within : (len oid : ℕ) (os : List ObjectState) → len ≡ length os → len ≡ OBJECT_LIMIT → oid < OBJECT_LIMIT → oid < length os
within len oid os a b h = omega arith

pub change-requires-clause-room : goal.change-requires-clause-room
change-requires-clause-room c =
    let os = c.args.self.now.objects.items in
    let inside = within c.args.self.now.objects.len c.args.oid os c.args.self.now.objects.ok.0 c.args.self.now.all_objects c.requires.known in
    object_room c.args.self.now c.args.kind c.args.oid c.index_mut.result.now c.requires.named
    (slice_get-get_or os c.args.oid c.index_mut.result.now inside ∙ ap (λ o. Some o) (sym c.index_mut.ensures.value)) c.requires.room

pub returns-clause-core : goal.returns-clause-core
returns-clause-core c = λ changes.
    ap (λ (f : ℕ → Object). let d : Core = record { shared = record (shared_of c.args.self.now) { objects = f }; seats = parts_of c.args.self.now.run c.args.self.now.opening c.args.self.now.seats.items } in d)
    (objects_set c.args.self.now.objects.items c.args.oid c.index_mut.result.now c.change.new.self (object_after c.args.seat c.args.kind c.args.found c.args.added.now)
    (within c.args.self.now.objects.len c.args.oid c.args.self.now.objects.items c.args.self.now.objects.ok.0 c.args.self.now.all_objects c.requires.known) c.index_mut.ensures.value c.change.ensures.after)
    ∙ ap (λ (s : Shared). let d : Core = record { shared = s; seats = parts_of c.args.self.now.run c.args.self.now.opening c.args.self.now.seats.items } in d)
    (shared_object c.args.seat c.args.kind c.args.found c.args.added.now (shared_of c.args.self.now) c.args.oid changes c.requires.named)

pub returns-clause-objects : goal.returns-clause-objects
returns-clause-objects c = λ _.
    objects_leave c.args.seat c.args.kind c.args.found c.args.added.now c.args.self.now.objects.items c.args.oid c.index_mut.result.now c.change.new.self
    (within c.args.self.now.objects.len c.args.oid c.args.self.now.objects.items c.args.self.now.objects.ok.0 c.args.self.now.all_objects c.requires.known) c.index_mut.ensures.value c.requires.named
    c.change.ensures.after c.change.ensures.room
