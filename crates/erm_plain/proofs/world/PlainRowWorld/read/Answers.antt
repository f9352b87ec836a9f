use Rattle.std.proofs.lemmas.Result.{IfErr-weaker, IfOk-weaker}
use Rattle.erm_model.specs.RowTransaction as rows
use Rattle.erm_lists.specs.Stands.{lists_view}
use Rattle.erm_world.proofs.WithSaves.{did_not_read, did_read}
use Rattle.erm_plain.specs.Stands.{held_by}
use Rattle.erm_plain.proofs.Holding.{answer_keeps, kept_stands}
use Rattle.erm_plain.proofs.world.PlainRowWorld.read.Goals as goal

pub returns-clause-stands : goal.returns-clause-stands
returns-clause-stands g c =
    c.standing_worlds_have_laws.ensures _
    (kept_stands g.L.RowLaw.law c.args.self.now c.read.new.self c.requires.stands.stands c.read.ensures.stands
    (answer_keeps (lists_view c.args.self.now.lists) (lists_view c.read.new.self) c.args.seat (held_by c.args.self.now.saves) c.read.result g.L.RowLaw.law (λ row. rows.did_read c.args.oid row) (rows.asked_read c.args.oid) c.requires.active c.read.ensures.ok c.read.ensures.err))

pub returns-clause-ok : goal.returns-clause-ok
returns-clause-ok g c =
    let v = lists_view c.args.self.now.lists in
    let t = lists_view c.read.new.self in
    let held = held_by c.args.self.now.saves in
    IfOk-weaker c.read.result _ _ (λ row did. did_read held v t c.args.seat c.args.oid row c.requires.active did) c.read.ensures.ok

pub returns-clause-err : goal.returns-clause-err
returns-clause-err g c =
    let v = lists_view c.args.self.now.lists in
    let t = lists_view c.read.new.self in
    let held = held_by c.args.self.now.saves in
    IfErr-weaker c.read.result _ _ (λ why did. did_not_read held v t c.args.seat c.args.oid why did) c.read.ensures.err
