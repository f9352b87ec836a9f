use Rattle.std.proofs.Common.{◌≡◌, ℕ, ◌≤◌, Result, Ok, Err, IfOk, arith}
use Rattle.std.proofs.lemmas.Result.{IfErr-weaker, on_ok_weaker}
use Rattle.erm_model.specs.RowTransaction as rows
use Rattle.erm_lists.specs.Stands.{lists_view}
use Rattle.erm_world.proofs.WithSaves.{did_claim, did_not_claim}
use Rattle.erm_plain.specs.Stands.{held_by}
use Rattle.erm_plain.proofs.Holding.{done_keeps, kept_stands}
use Rattle.erm_plain.proofs.world.PlainRowWorld.tidy.Goals as goal

-- none is no more than none
none_cut : {E : Type 0} (r : Result ℕ E) → IfOk r (λ count. count ≡ 0) → IfOk r (λ count. count ≤ 0)
none_cut (Ok count) none = omega (arith, none)
none_cut (Err why) none = tt

pub returns-clause-stands : goal.returns-clause-stands
returns-clause-stands g c =
    c.standing_worlds_have_laws.ensures _
    (kept_stands g.L.RowLaw.law c.args.self.now c.tidy.new.self c.requires.stands.stands c.tidy.ensures.stands
    (done_keeps (lists_view c.args.self.now.lists) (lists_view c.tidy.new.self) c.args.seat (held_by c.args.self.now.saves) c.tidy.result g.L.RowLaw.law (rows.did_claim c.args.oid) (rows.asked_claim c.args.oid) c.requires.active c.tidy.ensures.ok c.tidy.ensures.err))

pub returns-clause-ok : goal.returns-clause-ok
returns-clause-ok g c =
    let v = lists_view c.args.self.now.lists in
    let t = lists_view c.tidy.new.self in
    let held = held_by c.args.self.now.saves in
    on_ok_weaker c.tidy.result (λ did. did_claim held v t c.args.seat c.args.oid c.requires.active did) c.tidy.ensures.ok

pub returns-clause-count : goal.returns-clause-count
returns-clause-count g c = none_cut c.tidy.result c.tidy.ensures.none

pub returns-clause-err : goal.returns-clause-err
returns-clause-err g c =
    let v = lists_view c.args.self.now.lists in
    let t = lists_view c.tidy.new.self in
    let held = held_by c.args.self.now.saves in
    IfErr-weaker c.tidy.result _ _ (λ why did. did_not_claim held v t c.args.seat c.args.oid why did) c.tidy.ensures.err
