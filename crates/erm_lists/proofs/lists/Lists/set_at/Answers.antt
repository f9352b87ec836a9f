use Rattle.std.proofs.Common.{◌≡◌, ℕ, List, refl, sym, ap, ◌∙◌, subst}
use Rattle.erm_machine.specs.declared.attempt.Claim.{Claim}
use Rattle.erm_machine.specs.Core.{claim_at, no_claim}
use Rattle.erm_model.specs.declared.history.VersionWritten.{VersionWritten}
use Rattle.erm_core.specs.Cores.{core_of}
use Rattle.erm_core_steps.proofs.Exchanges.{claims_shown}
use Rattle.erm_core_steps.proofs.Quiet.{active_seat}
use Rattle.erm_core_steps.proofs.Stored.{claimed_from}
use Rattle.erm_world.specs.Calls.{Works}
use Rattle.erm_world.specs.World.{work_at}
use Rattle.erm_world.specs.Works.{is_claimed, setting}
use Rattle.erm_lists.specs.Stands.{lists_view}
use Rattle.erm_lists.proofs.Restoring.{set_works}
use Rattle.erm_lists.proofs.lists.Lists.set_at.Goals as goal

pub claim_made-claim-requires : goal.claim_made-claim-requires
claim_made-claim-requires g c =
    let at = active_seat c.args.self.now.sessions c.args.seat (core_of c.args.self.now.state) c.requires.stands.quiet c.requires.session c.requires.active in
    record { session = at.session }

pub set_row-requires-clause-claimed : goal.set_row-requires-clause-claimed
set_row-requires-clause-claimed g c =
    let sessions = c.args.self.now.sessions in
    let seat = c.args.seat in
    let now = core_of c.args.self.now.state in
    let x = now.seats seat in
    let at = active_seat sessions seat now c.requires.stands.quiet c.requires.session c.requires.active in
    let oid : c.claim_made-claim.result.version.oid ≡ (claim_at x.current c.args.place).version.oid = ap (λ (w : Claim). w.version.oid) c.claim_made-claim.ensures in
    ap (λ (cs : List VersionWritten). is_claimed cs c.claim_made-claim.result.version.oid) (claims_shown sessions seat now (lists_view c.args.self.now) at refl)
    ∙ claimed_from x.current.writes c.args.place no_claim c.claim_made-claim.result.version.oid c.requires.within (sym oid)

pub returns-clause-set : goal.returns-clause-set
returns-clause-set g c =
    let sessions = c.args.self.now.sessions in
    let seat = c.args.seat in
    let now = core_of c.args.self.now.state in
    let at = active_seat sessions seat now c.requires.stands.quiet c.requires.session c.requires.active in
    let v = lists_view c.args.self.now in
    let t = lists_view c.set_row.new.self in
    let of_claim = subst (λ (w : Claim). Works v seat (setting w.version.oid c.words_of.result.now (work_at v seat)) t) c.claim_made-claim.ensures c.set_row.ensures.set in
    set_works sessions seat c.args.place now c.requires.stands.sound.sound at c.requires.within c.args.row.now t
    (subst (λ (row : List ℕ). Works v seat (setting (claim_at (now.seats seat).current c.args.place).version.oid row (work_at v seat)) t) c.words_of.ensures.same of_claim)
