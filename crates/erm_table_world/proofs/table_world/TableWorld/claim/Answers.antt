use Rattle.std.proofs.Common.{ℕ, ◌∙◌, subst}
use Rattle.erm_model.specs.declared.row_stop.RowStop.{RowStop}
use Rattle.erm_rule.specs.Books.{book}
use Rattle.erm_rule.specs.Went.{core_of}
use Rattle.erm_session.specs.Calls.{ClaimsObject, RefusesClaim}
use Rattle.erm_session.specs.Took.{TookAnyClaim, TookClaimStop}
use Rattle.erm_table_world.proofs.Claiming.{did_claim}
use Rattle.erm_table_world.proofs.NotClaiming.{left_of, not_claim}
use Rattle.erm_table_world.proofs.Held.{keeps_saves}
use Rattle.erm_table_world.proofs.Sessions.{here, still_call}
use Rattle.erm_table_world.proofs.table_world.TableWorld.claim.Goals as goal

pub claim-requires : goal.claim-requires
claim-requires g c =
    let at = here g.L.RowLaw.law c.args.self.now c.args.seat c.index_mut.result.now c.requires.stands c.requires.session c.index_mut.ensures.value in
    record { fits = c.requires.stands.fits; known = at.known; stands = at.stands; active = at.phase ∙ c.requires.active; object = c.requires.object }

pub returns-in-Ok-clause-stands : goal.returns-in-Ok-clause-stands
returns-in-Ok-clause-stands g c =
    (still_call g.L.RowLaw.law c.args.self.now c.args.seat c.index_mut.result.now c.claim.new.self c.claim.new.p c.requires.stands c.requires.session c.index_mut.ensures.value c.claim.ensures.fits c.claim.ensures.seat
    c.claim.ensures.stands c.claim.ensures.still).stands

pub returns-in-Ok-clause-ok : goal.returns-in-Ok-clause-ok
returns-in-Ok-clause-ok g c =
    let law = g.L.RowLaw.law in
    let w = c.args.self.now in
    let seat = c.args.seat in
    let oid = c.args.oid in
    let s = c.index_mut.result.now in
    let stands = c.requires.stands in
    let at = here law w seat s stands c.requires.session c.index_mut.ensures.value in
    let b = book w.pass in
    let e = book c.claim.new.p in
    let call = still_call law w seat s c.claim.new.self c.claim.new.p stands c.requires.session c.index_mut.ensures.value c.claim.ensures.fits c.claim.ensures.seat c.claim.ensures.stands c.claim.ensures.still in
    let left = left_of s.stage ((core_of b).seats seat) (at.phase ∙ c.requires.active) at.is.kept.stage in
    let claims = subst (λ (n : ℕ). ClaimsObject b.view n oid e.view) at.seat c.in-Ok.ensures.claimed in
    let took = subst (λ (n : ℕ). TookAnyClaim law n oid c.in-Ok.field-0 b e) at.seat c.in-Ok.ensures.took in
    did_claim law w.count seat b e stands.at c.requires.session c.requires.active at.seated oid c.in-Ok.field-0 left call.ran call.stayed claims took

pub returns-in-Ok-clause-took : goal.returns-in-Ok-clause-took
returns-in-Ok-clause-took g c =
    let law = g.L.RowLaw.law in
    let at = here law c.args.self.now c.args.seat c.index_mut.result.now c.requires.stands c.requires.session c.index_mut.ensures.value in
    let cut = c.in-Ok.field-0 in
    (cut, subst (λ (n : ℕ). TookAnyClaim law n c.args.oid cut (book c.args.self.now.pass) (book c.claim.new.p)) at.seat c.in-Ok.ensures.took)

pub returns-in-Err-clause-stands : goal.returns-in-Err-clause-stands
returns-in-Err-clause-stands g c =
    (still_call g.L.RowLaw.law c.args.self.now c.args.seat c.index_mut.result.now c.claim.new.self c.claim.new.p c.requires.stands c.requires.session c.index_mut.ensures.value c.claim.ensures.fits c.claim.ensures.seat
    c.claim.ensures.stands c.claim.ensures.still).stands

pub returns-in-Err-clause-err : goal.returns-in-Err-clause-err
returns-in-Err-clause-err g c =
    let law = g.L.RowLaw.law in
    let w = c.args.self.now in
    let seat = c.args.seat in
    let oid = c.args.oid in
    let s = c.index_mut.result.now in
    let stands = c.requires.stands in
    let at = here law w seat s stands c.requires.session c.index_mut.ensures.value in
    let b = book w.pass in
    let e = book c.claim.new.p in
    let call = still_call law w seat s c.claim.new.self c.claim.new.p stands c.requires.session c.index_mut.ensures.value c.claim.ensures.fits c.claim.ensures.seat c.claim.ensures.stands c.claim.ensures.still in
    let left = left_of s.stage ((core_of b).seats seat) (at.phase ∙ c.requires.active) at.is.kept.stage in
    let refused = subst (λ (n : ℕ). RefusesClaim b.view n oid c.in-Err.why e.view) at.seat c.in-Err.ensures.refused in
    let none = subst (λ (n : ℕ). TookClaimStop law n oid c.in-Err.why b e) at.seat c.in-Err.ensures.took_none in
    not_claim law w.count seat b stands.at c.requires.session c.requires.active at.seated oid c.requires.object left c.in-Err.why e call.ran call.stayed refused none

pub returns-in-Err-clause-memory : goal.returns-in-Err-clause-memory
returns-in-Err-clause-memory g c same =
    let law = g.L.RowLaw.law in
    let oid = c.args.oid in
    let s = c.index_mut.result.now in
    let none = subst (λ (why : RowStop). TookClaimStop law s.seat oid why (book c.args.self.now.pass) (book c.claim.new.p)) same c.in-Err.ensures.took_none in
    none.1

pub returns-in-Ok-clause-saves : goal.returns-in-Ok-clause-saves
returns-in-Ok-clause-saves g c =
    let law = g.L.RowLaw.law in
    let w = c.args.self.now in
    let seat = c.args.seat in
    let s = c.index_mut.result.now in
    let stands = c.requires.stands in
    let call = still_call law w seat s c.claim.new.self c.claim.new.p stands c.requires.session c.index_mut.ensures.value c.claim.ensures.fits c.claim.ensures.seat c.claim.ensures.stands c.claim.ensures.still in
    keeps_saves law w seat s stands c.requires.session c.index_mut.ensures.value c.claim.new.p call.ran c.claim.new.self c.claim.ensures.stands c.claim.ensures.saves

pub returns-in-Err-clause-saves : goal.returns-in-Err-clause-saves
returns-in-Err-clause-saves g c =
    let law = g.L.RowLaw.law in
    let w = c.args.self.now in
    let seat = c.args.seat in
    let s = c.index_mut.result.now in
    let stands = c.requires.stands in
    let call = still_call law w seat s c.claim.new.self c.claim.new.p stands c.requires.session c.index_mut.ensures.value c.claim.ensures.fits c.claim.ensures.seat c.claim.ensures.stands c.claim.ensures.still in
    keeps_saves law w seat s stands c.requires.session c.index_mut.ensures.value c.claim.new.p call.ran c.claim.new.self c.claim.ensures.stands c.claim.ensures.saves
