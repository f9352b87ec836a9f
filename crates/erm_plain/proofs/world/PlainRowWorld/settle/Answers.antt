use Rattle.std.proofs.lemmas.Result.{IfErr-weaker, IfOk-weaker}
use Rattle.erm_lists.specs.Stands.{lists_view}
use Rattle.erm_world.proofs.WithSaves.{did_not_settle, did_settle}
use Rattle.erm_plain.specs.Stands.{held_by}
use Rattle.erm_plain.proofs.Holding.{kept_stands, settle_keeps}
use Rattle.erm_plain.proofs.world.PlainRowWorld.settle.Goals as goal

pub returns-clause-stands : goal.returns-clause-stands
returns-clause-stands g c =
    c.standing_worlds_have_laws.ensures _
    (kept_stands g.L.RowLaw.law c.args.self.now c.settle.new.self c.requires.stands.stands c.settle.ensures.stands
    (settle_keeps (lists_view c.args.self.now.lists) (lists_view c.settle.new.self) c.args.seat (held_by c.args.self.now.saves) c.settle.result c.settle.ensures.ok c.settle.ensures.err))

pub returns-clause-ok : goal.returns-clause-ok
returns-clause-ok g c =
    let v = lists_view c.args.self.now.lists in
    let t = lists_view c.settle.new.self in
    let held = held_by c.args.self.now.saves in
    IfOk-weaker c.settle.result _ _ (λ outcome did. did_settle held v t c.args.seat outcome did) c.settle.ensures.ok

pub returns-clause-err : goal.returns-clause-err
returns-clause-err g c =
    let v = lists_view c.args.self.now.lists in
    let t = lists_view c.settle.new.self in
    let held = held_by c.args.self.now.saves in
    IfErr-weaker c.settle.result _ _ (λ why did. did_not_settle held v t c.args.seat why did) c.settle.ensures.err
