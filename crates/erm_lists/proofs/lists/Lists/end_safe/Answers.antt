use Rattle.std.proofs.Common.{ℕ, sym, subst}
use Rattle.erm_core.specs.Cores.{core_of}
use Rattle.erm_core_steps.proofs.Aborts.{abort_done, leave_taken}
use Rattle.erm_core_steps.proofs.Unseen.{unseen_none}
use Rattle.erm_core_view.specs.Views.{IsQuiet, view_of}
use Rattle.erm_world.specs.Calls.{DidAbort}
use Rattle.erm_lists.proofs.SafeLooks.{snapshot_cleared, snapshot_seat}
use Rattle.erm_lists.proofs.lists.Lists.end_safe.Goals as goal

pub go-requires-clause-taken : goal.go-requires-clause-taken
go-requires-clause-taken g c =
    let seat = c.args.seat in
    let before = core_of c.args.self.now.state in
    let at = snapshot_seat c.args.self.now.sessions seat before c.requires.stands.quiet c.requires.session c.requires.snapshot in
    leave_taken seat before c.requires.stands.sound.sound (snapshot_cleared seat before c.requires.stands.sound.sound at)

pub returns-clause-stands : goal.returns-clause-stands
returns-clause-stands g c =
    let n = c.args.self.now.sessions in
    let seat = c.args.seat in
    let before = core_of c.args.self.now.state in
    let after = core_of c.go.new.self.state in
    let sound = c.requires.stands.sound.sound in
    let at = snapshot_seat n seat before c.requires.stands.quiet c.requires.session c.requires.snapshot in
    let done =
    abort_done n seat before before after c.requires.stands.quiet c.requires.session sound (unseen_none n seat before) (snapshot_cleared seat before sound at) c.go.ensures.after
    in
    record { sound = c.go.ensures.sound; quiet = subst (λ (m : ℕ). IsQuiet m after) (sym c.go.ensures.sessions) done.0 }

pub returns-clause-ended : goal.returns-clause-ended
returns-clause-ended g c =
    let n = c.args.self.now.sessions in
    let seat = c.args.seat in
    let before = core_of c.args.self.now.state in
    let after = core_of c.go.new.self.state in
    let sound = c.requires.stands.sound.sound in
    let at = snapshot_seat n seat before c.requires.stands.quiet c.requires.session c.requires.snapshot in
    let done =
    abort_done n seat before before after c.requires.stands.quiet c.requires.session sound (unseen_none n seat before) (snapshot_cleared seat before sound at) c.go.ensures.after
    in
    subst (λ (m : ℕ). DidAbort (view_of n before) seat (view_of m after)) (sym c.go.ensures.sessions) done.1
