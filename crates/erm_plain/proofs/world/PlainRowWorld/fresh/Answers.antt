use Rattle.std.proofs.lemmas.Result.{IfErr-weaker, IfOk-weaker}
use Rattle.erm_model.specs.RowTransaction as rows
use Rattle.erm_lists.specs.Stands.{lists_view}
use Rattle.erm_world.proofs.WithSaves.{did_make, did_not_make}
use Rattle.erm_plain.specs.Stands.{held_by}
use Rattle.erm_plain.proofs.Holding.{answer_keeps, kept_stands}
use Rattle.erm_plain.proofs.world.PlainRowWorld.fresh.Goals as goal

pub returns-clause-stands : goal.returns-clause-stands
returns-clause-stands g c =
    c.standing_worlds_have_laws.ensures _
    (kept_stands g.L.RowLaw.law c.args.self.now c.fresh.new.self c.requires.stands.stands c.fresh.ensures.stands
    (answer_keeps (lists_view c.args.self.now.lists) (lists_view c.fresh.new.self) c.args.seat (held_by c.args.self.now.saves) c.fresh.result g.L.RowLaw.law (λ oid. rows.did_make oid) rows.asked_make c.requires.active c.fresh.ensures.ok c.fresh.ensures.err))

pub returns-clause-ok : goal.returns-clause-ok
returns-clause-ok g c =
    let v = lists_view c.args.self.now.lists in
    let t = lists_view c.fresh.new.self in
    let held = held_by c.args.self.now.saves in
    IfOk-weaker c.fresh.result _ _ (λ oid did. did_make held v t c.args.seat oid c.requires.active did) c.fresh.ensures.ok

pub returns-clause-err : goal.returns-clause-err
returns-clause-err g c =
    let v = lists_view c.args.self.now.lists in
    let t = lists_view c.fresh.new.self in
    let held = held_by c.args.self.now.saves in
    IfErr-weaker c.fresh.result _ _ (λ why did. did_not_make held v t c.args.seat why did) c.fresh.ensures.err
