use Rattle.std.proofs.Common.{true, subst}
use Rattle.erm_machine.specs.declared.attempt.Claim.{Claim}
use Rattle.erm_machine.specs.Decided.{written_of}
use Rattle.erm_machine.specs.Core.{claim_at}
use Rattle.erm_core.specs.Cores.{core_of}
use Rattle.erm_core_steps.proofs.Quiet.{active_seat}
use Rattle.erm_world.specs.Calls.{Works}
use Rattle.erm_world.specs.World.{work_at}
use Rattle.erm_lists.specs.Restores.{with_claim}
use Rattle.erm_lists.specs.Stands.{lists_view}
use Rattle.erm_lists.proofs.Restoring.{may_undo, undo_done, undo_shown}
use Rattle.erm_lists.proofs.lists.Lists.undo_at.Goals as goal

pub claim_made-claim-requires : goal.claim_made-claim-requires
claim_made-claim-requires g c =
    let at = active_seat c.args.self.now.sessions c.args.seat (core_of c.args.self.now.state) c.requires.stands.quiet c.requires.session c.requires.active in
    record { session = at.session }

pub go-requires-clause-taken : goal.go-requires-clause-taken
go-requires-clause-taken g c =
    let p = c.args.self.now in
    let made = written_of (claim_at ((core_of p.state).seats c.args.seat).current c.args.place) in
    let set_it =
    subst (λ (w : Claim). Works (lists_view p) c.args.seat (with_claim c.args.place (record made { row = w.base; is_set = true }) (work_at (lists_view p) c.args.seat)) (lists_view c.set_at.new.self))
    c.claim_made-claim.ensures c.set_at.ensures.set
    in
    may_undo g.L.RowLaw.law p c.set_at.new.self c.args.seat c.args.place c.requires.stands c.requires.session c.requires.active c.requires.within c.set_at.ensures.stands set_it c.set_at.ensures.rests

pub returns-clause-stands : goal.returns-clause-stands
returns-clause-stands g c =
    let p = c.args.self.now in
    let made = written_of (claim_at ((core_of p.state).seats c.args.seat).current c.args.place) in
    let set_it =
    subst (λ (w : Claim). Works (lists_view p) c.args.seat (with_claim c.args.place (record made { row = w.base; is_set = true }) (work_at (lists_view p) c.args.seat)) (lists_view c.set_at.new.self))
    c.claim_made-claim.ensures c.set_at.ensures.set
    in
    undo_done g.L.RowLaw.law p c.set_at.new.self c.args.seat c.args.place c.requires.stands c.requires.session c.requires.active c.requires.within c.set_at.ensures.stands set_it c.set_at.ensures.rests
    c.go.new.self c.go.ensures.sessions c.go.ensures.sound c.go.ensures.after

pub returns-clause-undone : goal.returns-clause-undone
returns-clause-undone g c =
    let p = c.args.self.now in
    let made = written_of (claim_at ((core_of p.state).seats c.args.seat).current c.args.place) in
    let set_it =
    subst (λ (w : Claim). Works (lists_view p) c.args.seat (with_claim c.args.place (record made { row = w.base; is_set = true }) (work_at (lists_view p) c.args.seat)) (lists_view c.set_at.new.self))
    c.claim_made-claim.ensures c.set_at.ensures.set
    in
    undo_shown g.L.RowLaw.law p c.set_at.new.self c.args.seat c.args.place c.requires.stands c.requires.session c.requires.active c.requires.within c.set_at.ensures.stands set_it c.set_at.ensures.rests
    c.go.new.self c.go.ensures.sessions c.go.ensures.sound c.go.ensures.after
