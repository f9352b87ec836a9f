use Rattle.std.proofs.lemmas.Result.{IfErr-weaker, on_ok_weaker}
use Rattle.erm_model.specs.RowTransaction as rows
use Rattle.erm_lists.specs.Stands.{lists_view}
use Rattle.erm_world.proofs.WithSaves.{did_not_claim, did_write}
use Rattle.erm_plain.specs.Stands.{held_by}
use Rattle.erm_plain.proofs.Holding.{done_keeps, kept_stands}
use Rattle.erm_plain.proofs.world.PlainRowWorld.write.Goals as goal

pub returns-clause-stands : goal.returns-clause-stands
returns-clause-stands g c =
    c.standing_worlds_have_laws.ensures _
    (kept_stands g.L.RowLaw.law c.args.self.now c.write.new.self c.requires.stands.stands c.write.ensures.stands
    (done_keeps (lists_view c.args.self.now.lists) (lists_view c.write.new.self) c.args.seat (held_by c.args.self.now.saves) c.write.result g.L.RowLaw.law (rows.did_write c.args.oid c.args.row.now) (rows.asked_claim c.args.oid) c.requires.active c.write.ensures.ok c.write.ensures.err))

pub returns-clause-ok : goal.returns-clause-ok
returns-clause-ok g c =
    let v = lists_view c.args.self.now.lists in
    let t = lists_view c.write.new.self in
    let held = held_by c.args.self.now.saves in
    on_ok_weaker c.write.result (λ did. did_write held v t c.args.seat c.args.oid c.args.row.now c.requires.active did) c.write.ensures.ok

pub returns-clause-err : goal.returns-clause-err
returns-clause-err g c =
    let v = lists_view c.args.self.now.lists in
    let t = lists_view c.write.new.self in
    let held = held_by c.args.self.now.saves in
    IfErr-weaker c.write.result _ _ (λ why did. did_not_claim held v t c.args.seat c.args.oid why did) c.write.ensures.err
