use Rattle.std.proofs.Common.{◌≡◌, ℕ, sym, subst, ◌∙◌}
use Rattle.erm_core.specs.Cores.{core_of}
use Rattle.erm_core_view.specs.Views.{IsQuiet, view_of}
use Rattle.erm_world.specs.Calls.{DidAbort}
use Rattle.erm_core_steps.specs.Steps.{IsUnseen}
use Rattle.erm_core_steps.proofs.Aborts.{abort_done, leave_taken, may_end}
use Rattle.erm_core_steps.proofs.Unseen.{unseen_both}
use Rattle.erm_lists.proofs.lists.Lists.abort.Goals as goal

pub release_claims-requires-clause-ends : goal.release_claims-requires-clause-ends
release_claims-requires-clause-ends g c =
    may_end c.args.self.now.sessions c.args.seat (core_of c.args.self.now.state) c.requires.stands.quiet c.requires.session c.requires.active

pub go-requires-clause-taken : goal.go-requires-clause-taken
go-requires-clause-taken g c =
    leave_taken c.args.seat (core_of c.clear_readers.new.self.state) c.clear_readers.ensures.sound.sound c.clear_readers.ensures.ends

pub returns-clause-stands : goal.returns-clause-stands
returns-clause-stands g c =
    let sessions = c.args.self.now.sessions in
    let seat = c.args.seat in
    let before = core_of c.args.self.now.state in
    let between = core_of c.release_claims.new.self.state in
    let last = core_of c.clear_readers.new.self.state in
    let after = core_of c.go.new.self.state in
    let same : c.go.new.self.sessions ≡ sessions = c.go.ensures.sessions ∙ c.clear_readers.ensures.sessions ∙ c.release_claims.ensures.sessions in
    let unseen =
    unseen_both sessions seat before between last c.release_claims.ensures.unseen
    (subst (λ (n : ℕ). IsUnseen n seat between last) c.release_claims.ensures.sessions c.clear_readers.ensures.unseen)
    in
    let done =
    abort_done sessions seat before last after c.requires.stands.quiet c.requires.session c.clear_readers.ensures.sound.sound unseen
    c.clear_readers.ensures.ends c.go.ensures.after
    in
    record { sound = c.go.ensures.sound; quiet = subst (λ (n : ℕ). IsQuiet n after) (sym same) done.0 }

pub returns-clause-aborted : goal.returns-clause-aborted
returns-clause-aborted g c =
    let sessions = c.args.self.now.sessions in
    let seat = c.args.seat in
    let before = core_of c.args.self.now.state in
    let between = core_of c.release_claims.new.self.state in
    let last = core_of c.clear_readers.new.self.state in
    let after = core_of c.go.new.self.state in
    let same : c.go.new.self.sessions ≡ sessions = c.go.ensures.sessions ∙ c.clear_readers.ensures.sessions ∙ c.release_claims.ensures.sessions in
    let unseen =
    unseen_both sessions seat before between last c.release_claims.ensures.unseen
    (subst (λ (n : ℕ). IsUnseen n seat between last) c.release_claims.ensures.sessions c.clear_readers.ensures.unseen)
    in
    let done =
    abort_done sessions seat before last after c.requires.stands.quiet c.requires.session c.clear_readers.ensures.sound.sound unseen
    c.clear_readers.ensures.ends c.go.ensures.after
    in
    subst (λ (n : ℕ). DidAbort (view_of sessions before) seat (view_of n after)) (sym same) done.1
