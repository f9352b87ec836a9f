use Rattle.std.proofs.Common.{◌≡◌, ◌<◌, ◌≤◌, IfErr, IfOk, length, sym, subst, arith}
use Rattle.erm_model.specs.declared.outcome.Phase.TheVariants as phase
use Rattle.erm_machine.specs.declared.limits.TheConstants.{READ_LIMIT}
use Rattle.erm_core.specs.Cores.{core_of}
use Rattle.erm_world.specs.Calls.{DidNotRead, DidRead, IsNew}
use Rattle.erm_world.specs.World.{IsSession, View, phase_at, work_at}
use Rattle.erm_lists.specs.Stands.{lists_view}
use Rattle.erm_core_steps.proofs.Quiet.{active_seat}
use Rattle.erm_core_steps.proofs.Readings.{reads_shown}
use Rattle.erm_lists.proofs.lists.Lists.read_first.Goals as goal

pub reads-requires : goal.reads-requires
reads-requires g c =
    let session = subst (λ (v : View). IsSession v c.args.seat) (sym c.has_room.ensures.view) c.requires.session in
    let active = subst (λ (v : View). phase_at v c.args.seat ≡ phase.Active) (sym c.has_room.ensures.view) c.requires.active in
    let at = active_seat c.has_room.new.self.sessions c.args.seat (core_of c.has_room.new.self.state) c.has_room.ensures.stands.quiet session active in
    record { session = at.session }

pub returns-then-reads-ge-READ_LIMIT-clause-err : goal.returns-then-reads-ge-READ_LIMIT-clause-err
returns-then-reads-ge-READ_LIMIT-clause-err g c =
    let session = subst (λ (v : View). IsSession v c.args.seat) (sym c.has_room.ensures.view) c.requires.session in
    let active = subst (λ (v : View). phase_at v c.args.seat ≡ phase.Active) (sym c.has_room.ensures.view) c.requires.active in
    let now = core_of c.has_room.new.self.state in
    let at = active_seat c.has_room.new.self.sessions c.args.seat now c.has_room.ensures.stands.quiet session active in
    let shown = reads_shown c.has_room.new.self.sessions c.args.seat now (lists_view c.args.self.now) at c.has_room.ensures.view in
    let most : length (now.seats c.args.seat).current.reads ≤ READ_LIMIT = (c.has_room.ensures.stands.sound.sound.own c.args.seat).ranges.few_reads in
    let many = c.if-reads-ge-READ_LIMIT.true in
    let all = c.reads.ensures in
    (c.has_room.ensures.view, c.requires.new, omega (arith, shown, most, many, all))

pub read_now-requires-clause-session : goal.read_now-requires-clause-session
read_now-requires-clause-session g c = subst (λ (v : View). IsSession v c.args.seat) (sym c.has_room.ensures.view) c.requires.session

pub read_now-requires-clause-active : goal.read_now-requires-clause-active
read_now-requires-clause-active g c = subst (λ (v : View). phase_at v c.args.seat ≡ phase.Active) (sym c.has_room.ensures.view) c.requires.active

pub read_now-requires-clause-new : goal.read_now-requires-clause-new
read_now-requires-clause-new g c = subst (λ (v : View). IsNew (work_at v c.args.seat) c.args.oid) (sym c.has_room.ensures.view) c.requires.new

pub read_now-requires-clause-few : goal.read_now-requires-clause-few
read_now-requires-clause-few g c =
    let session = subst (λ (v : View). IsSession v c.args.seat) (sym c.has_room.ensures.view) c.requires.session in
    let active = subst (λ (v : View). phase_at v c.args.seat ≡ phase.Active) (sym c.has_room.ensures.view) c.requires.active in
    let now = core_of c.has_room.new.self.state in
    let at = active_seat c.has_room.new.self.sessions c.args.seat now c.has_room.ensures.stands.quiet session active in
    let shown = reads_shown c.has_room.new.self.sessions c.args.seat now (lists_view c.args.self.now) at c.has_room.ensures.view in
    let few = c.if-reads-ge-READ_LIMIT.false in
    let all = c.reads.ensures in
    subst (λ (v : View). length (work_at v c.args.seat).reads < READ_LIMIT) (sym c.has_room.ensures.view) (omega (arith, shown, few, all))

pub read_now-requires-clause-room : goal.read_now-requires-clause-room
read_now-requires-clause-room g c = c.has_room.ensures.room c.if-not-has_room.false

pub returns-clause-ok : goal.returns-clause-ok
returns-clause-ok g c =
    subst (λ (v : View). IfOk c.read_now.result (λ row. DidRead v c.args.seat c.args.oid row (lists_view c.read_now.new.self))) c.has_room.ensures.view c.read_now.ensures.ok

pub returns-clause-err : goal.returns-clause-err
returns-clause-err g c =
    subst (λ (v : View). IfErr c.read_now.result (λ why. DidNotRead v c.args.seat c.args.oid why (lists_view c.read_now.new.self))) c.has_room.ensures.view c.read_now.ensures.err
