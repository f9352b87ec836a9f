use Rattle.std.proofs.lemmas.Result.{IfErr-weaker, on_ok_weaker}
use Rattle.erm_lists.specs.Stands.{lists_view}
use Rattle.erm_world.proofs.WithSaves.{did_not_safe, did_safe}
use Rattle.erm_plain.specs.Stands.{held_by}
use Rattle.erm_plain.proofs.Holding.{kept_stands, safe_keeps}
use Rattle.erm_plain.proofs.safe_world.PlainSafeWorld.safe.Goals as goal

pub returns-clause-stands : goal.returns-clause-stands
returns-clause-stands g c =
    c.standing_worlds_have_laws.ensures _
    (kept_stands g.L.RowLaw.law c.args.self.now c.safe.new.self c.requires.stands.stands c.safe.ensures.stands
    (safe_keeps (lists_view c.args.self.now.lists) (lists_view c.safe.new.self) c.args.seat (held_by c.args.self.now.saves) c.safe.result c.safe.ensures.ok c.safe.ensures.err))

pub returns-clause-ok : goal.returns-clause-ok
returns-clause-ok g c =
    let v = lists_view c.args.self.now.lists in
    let t = lists_view c.safe.new.self in
    let held = held_by c.args.self.now.saves in
    on_ok_weaker c.safe.result (λ did. did_safe held v t c.args.seat did) c.safe.ensures.ok

pub returns-clause-err : goal.returns-clause-err
returns-clause-err g c =
    let v = lists_view c.args.self.now.lists in
    let t = lists_view c.safe.new.self in
    let held = held_by c.args.self.now.saves in
    IfErr-weaker c.safe.result _ _ (λ why did. did_not_safe held v t c.args.seat why did) c.safe.ensures.err
