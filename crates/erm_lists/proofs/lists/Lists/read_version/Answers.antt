use Rattle.std.proofs.Common.{◌≡◌, ◌∙◌, sym, subst}
use Rattle.erm_core.specs.Cores.{core_of}
use Rattle.erm_core.specs.declared.need.Need.TheVariants as need
use Rattle.erm_core_view.specs.Views.{IsQuiet, view_of}
use Rattle.erm_core_steps.specs.Reads.{DidRegister, GoesOn, HasRegistered}
use Rattle.erm_lists.specs.Stands.{lists_view}
use Rattle.erm_core_steps.proofs.Early.{quiet_goes}
use Rattle.erm_core_steps.proofs.Registered.{did_register, quiet_registered, reads_few, reads_none}
use Rattle.erm_core_steps.proofs.Ways.{goes_both}
use Rattle.erm_lists.proofs.lists.Lists.read_version.Goals as goal

pub returns-in_err-arrive-clause-stands : goal.returns-in_err-arrive-clause-stands
returns-in_err-arrive-clause-stands g c =
    let after = core_of c.arrive.new.self.state in
    record {
      sound = c.arrive.ensures.sound;
      quiet =
          subst (λ n. IsQuiet n after) (sym c.arrive.ensures.sessions)
          (quiet_goes c.args.self.now.sessions c.args.seat (core_of c.args.self.now.state) after c.requires.stands.quiet c.requires.session c.arrive.ensures.sound.sound
          c.arrive.ensures.goes c.in_err-arrive.ensures.starts);
    }

pub register-row-requires-clause-stage : goal.register-row-requires-clause-stage
register-row-requires-clause-stage g c = c.go_on.ensures.stage ∙ c.in_ok-arrive.ensures.ok

pub register-row-requires-clause-few : goal.register-row-requires-clause-few
register-row-requires-clause-few g c =
    let before = core_of c.args.self.now.state in
    let arrived = core_of c.arrive.new.self.state in
    let found = core_of c.go_on.new.self.state in
    let goes =
    goes_both c.args.self.now.sessions c.args.seat before arrived found c.arrive.ensures.goes
    (subst (λ n. GoesOn n c.args.seat arrived found) c.arrive.ensures.sessions c.go_on.ensures.goes)
    in
    reads_few c.args.self.now.sessions c.args.seat before found goes c.requires.few

pub register-row-requires-clause-unread : goal.register-row-requires-clause-unread
register-row-requires-clause-unread g c =
    let before = core_of c.args.self.now.state in
    let arrived = core_of c.arrive.new.self.state in
    let found = core_of c.go_on.new.self.state in
    let goes =
    goes_both c.args.self.now.sessions c.args.seat before arrived found c.arrive.ensures.goes
    (subst (λ n. GoesOn n c.args.seat arrived found) c.arrive.ensures.sessions c.go_on.ensures.goes)
    in
    reads_none c.args.self.now.sessions c.args.seat c.args.oid before found goes c.requires.new.unread

pub register-row-requires-clause-room : goal.register-row-requires-clause-room
register-row-requires-clause-room g c = c.go_on.ensures.room need.Read (c.arrive.ensures.room need.Read c.requires.room)

pub returns-clause-stands : goal.returns-clause-stands
returns-clause-stands g c =
    let sessions = c.args.self.now.sessions in
    let seat = c.args.seat in
    let before = core_of c.args.self.now.state in
    let arrived = core_of c.arrive.new.self.state in
    let found = core_of c.go_on.new.self.state in
    let read = core_of c.register-row.new.self.state in
    let after = core_of c.go_on-2.new.self.state in
    let goes = goes_both sessions seat before arrived found c.arrive.ensures.goes (subst (λ n. GoesOn n seat arrived found) c.arrive.ensures.sessions c.go_on.ensures.goes) in
    let two : c.go_on.new.self.sessions ≡ sessions = c.go_on.ensures.sessions ∙ c.arrive.ensures.sessions in
    let three : c.register-row.new.self.sessions ≡ sessions = c.register-row.ensures.sessions ∙ two in
    let registered = subst (λ n. HasRegistered n seat c.args.oid c.register-row.result found read) two c.register-row.ensures.registered in
    let rated = subst (λ n. GoesOn n seat read after) three c.go_on-2.ensures.goes in
    record {
      sound = c.go_on-2.ensures.sound;
      quiet =
          subst (λ n. IsQuiet n after) (sym (c.go_on-2.ensures.sessions ∙ three))
          (quiet_registered sessions seat c.args.oid c.register-row.result before found read after goes registered rated c.requires.stands.quiet c.requires.session
          c.go_on-2.ensures.sound.sound c.go_on-2.ensures.stage);
    }

pub returns-clause-ok : goal.returns-clause-ok
returns-clause-ok g c =
    let sessions = c.args.self.now.sessions in
    let seat = c.args.seat in
    let before = core_of c.args.self.now.state in
    let arrived = core_of c.arrive.new.self.state in
    let found = core_of c.go_on.new.self.state in
    let read = core_of c.register-row.new.self.state in
    let after = core_of c.go_on-2.new.self.state in
    let goes = goes_both sessions seat before arrived found c.arrive.ensures.goes (subst (λ n. GoesOn n seat arrived found) c.arrive.ensures.sessions c.go_on.ensures.goes) in
    let two : c.go_on.new.self.sessions ≡ sessions = c.go_on.ensures.sessions ∙ c.arrive.ensures.sessions in
    let three : c.register-row.new.self.sessions ≡ sessions = c.register-row.ensures.sessions ∙ two in
    let registered = subst (λ n. HasRegistered n seat c.args.oid c.register-row.result found read) two c.register-row.ensures.registered in
    let rated = subst (λ n. GoesOn n seat read after) three c.go_on-2.ensures.goes in
    subst (λ n. DidRegister (lists_view c.args.self.now) seat c.args.oid c.register-row.result (view_of n after)) (sym (c.go_on-2.ensures.sessions ∙ three))
    (did_register sessions seat c.args.oid c.register-row.result before found read after goes registered rated c.requires.stands.sound.sound c.requires.stands.quiet
    c.go_on.ensures.sound.sound (c.go_on.ensures.stage ∙ c.in_ok-arrive.ensures.ok) c.go_on.ensures.done)
