use Rattle.std.proofs.lemmas.Result.{IfErr-weaker, on_ok_weaker}
use Rattle.erm_model.specs.RowTransaction as rows
use Rattle.erm_lists.specs.Stands.{lists_view}
use Rattle.erm_world.proofs.WithSaves.{did_claim, did_not_claim}
use Rattle.erm_plain.specs.Stands.{held_by}
use Rattle.erm_plain.proofs.Holding.{done_keeps, kept_stands}
use Rattle.erm_plain.proofs.world.PlainRowWorld.claim.Goals as goal

pub returns-clause-stands : goal.returns-clause-stands
returns-clause-stands g c =
    c.standing_worlds_have_laws.ensures _
    (kept_stands g.L.RowLaw.law c.args.self.now c.claim.new.self c.requires.stands.stands c.claim.ensures.stands
    (done_keeps (lists_view c.args.self.now.lists) (lists_view c.claim.new.self) c.args.seat (held_by c.args.self.now.saves) c.claim.result g.L.RowLaw.law (rows.did_claim c.args.oid) (rows.asked_claim c.args.oid) c.requires.active c.claim.ensures.ok c.claim.ensures.err))

pub returns-clause-ok : goal.returns-clause-ok
returns-clause-ok g c =
    let v = lists_view c.args.self.now.lists in
    let t = lists_view c.claim.new.self in
    let held = held_by c.args.self.now.saves in
    on_ok_weaker c.claim.result (λ did. did_claim held v t c.args.seat c.args.oid c.requires.active did) c.claim.ensures.ok

pub returns-clause-err : goal.returns-clause-err
returns-clause-err g c =
    let v = lists_view c.args.self.now.lists in
    let t = lists_view c.claim.new.self in
    let held = held_by c.args.self.now.saves in
    IfErr-weaker c.claim.result _ _ (λ why did. did_not_claim held v t c.args.seat c.args.oid why did) c.claim.ensures.err
