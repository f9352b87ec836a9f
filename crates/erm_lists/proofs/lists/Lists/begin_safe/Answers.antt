use Rattle.std.proofs.Common.{ℕ, ◌<◌, ◌≤◌, sym, subst}
use Rattle.erm_core.specs.Cores.{core_of}
use Rattle.erm_core_view.specs.Views.{IsQuiet, view_of}
use Rattle.erm_world.specs.Safe.{DidBeginSafe}
use Rattle.erm_world.specs.World.{IsSession, Opening}
use Rattle.erm_lists.specs.Stands.{lists_view}
use Rattle.erm_lists.proofs.SafeBegins.{raise_done, raise_taken}
use Rattle.erm_lists.proofs.lists.Lists.begin_safe.Goals as goal

pub go-requires-clause-taken : goal.go-requires-clause-taken
go-requires-clause-taken g c = raise_taken c.args.seat c.in_ok-begin.begin (core_of c.begin.new.self.state) c.in_ok-begin.ensures.begun

pub returns-clause-stands : goal.returns-clause-stands
returns-clause-stands g c =
    let n = c.begin.new.self.sessions in
    let seat = c.args.seat in
    let begun = core_of c.begin.new.self.state in
    let after = core_of c.go.new.self.state in
    let did = c.in_ok-begin.ensures.ok in
    let session : IsSession (view_of n begun) seat = subst (λ (o : Opening). (0 < seat) × (seat ≤ o.sessions)) (sym did.3.opening) c.requires.session in
    let done =
    raise_done n seat c.in_ok-begin.begin (lists_view c.args.self.now) begun after c.begin.ensures.stands.sound.sound c.begin.ensures.stands.quiet session
    c.in_ok-begin.ensures.begun did c.go.ensures.after
    in
    record { sound = c.go.ensures.sound; quiet = subst (λ (m : ℕ). IsQuiet m after) (sym c.go.ensures.sessions) done.0 }

pub returns-clause-ok : goal.returns-clause-ok
returns-clause-ok g c =
    let n = c.begin.new.self.sessions in
    let seat = c.args.seat in
    let begun = core_of c.begin.new.self.state in
    let after = core_of c.go.new.self.state in
    let did = c.in_ok-begin.ensures.ok in
    let session : IsSession (view_of n begun) seat = subst (λ (o : Opening). (0 < seat) × (seat ≤ o.sessions)) (sym did.3.opening) c.requires.session in
    let done =
    raise_done n seat c.in_ok-begin.begin (lists_view c.args.self.now) begun after c.begin.ensures.stands.sound.sound c.begin.ensures.stands.quiet session
    c.in_ok-begin.ensures.begun did c.go.ensures.after
    in
    subst (λ (m : ℕ). DidBeginSafe (lists_view c.args.self.now) seat c.in_ok-begin.begin (view_of m after)) (sym c.go.ensures.sessions) done.1
