use Rattle.std.proofs.lemmas.Result.{IfErr-weaker, IfOk-weaker}
use Rattle.erm_lists.specs.Stands.{lists_view}
use Rattle.erm_world.proofs.WithSaves.{did_begin_safe, may_not_begin}
use Rattle.erm_plain.specs.Stands.{held_by}
use Rattle.erm_plain.proofs.Holding.{begin_safe_keeps, kept_stands}
use Rattle.erm_plain.proofs.safe_world.PlainSafeWorld.begin_safe.Goals as goal

pub returns-clause-stands : goal.returns-clause-stands
returns-clause-stands g c =
    c.standing_worlds_have_laws.ensures _
    (kept_stands g.L.RowLaw.law c.args.self.now c.begin_safe.new.self c.requires.stands.stands c.begin_safe.ensures.stands
    (begin_safe_keeps (lists_view c.args.self.now.lists) (lists_view c.begin_safe.new.self) c.args.seat (held_by c.args.self.now.saves) c.begin_safe.result c.begin_safe.ensures.ok c.begin_safe.ensures.err))

pub returns-clause-ok : goal.returns-clause-ok
returns-clause-ok g c =
    let v = lists_view c.args.self.now.lists in
    let t = lists_view c.begin_safe.new.self in
    let held = held_by c.args.self.now.saves in
    IfOk-weaker c.begin_safe.result _ _ (λ at did. did_begin_safe held v t c.args.seat at did) c.begin_safe.ensures.ok

pub returns-clause-err : goal.returns-clause-err
returns-clause-err g c =
    let v = lists_view c.args.self.now.lists in
    let t = lists_view c.begin_safe.new.self in
    let held = held_by c.args.self.now.saves in
    IfErr-weaker c.begin_safe.result _ _ (λ why did. may_not_begin held v t c.args.seat why did) c.begin_safe.ensures.err
