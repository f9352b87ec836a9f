use Rattle.std.proofs.Common.{◌≡◌, ℕ, List, ap, ◌∙◌, arith, inl, refl, subst, sym}
use Rattle.std.specs.Prelude.{Err}
use Rattle.std.specs.Vec.{with_items}
use Rattle.std.proofs.lemmas.List.{take_rest, with_items_is}
use Rattle.erm_model.specs.Rows.{rows_of}
use Rattle.erm_replica.specs.declared.front.Lack.TheVariants as lack
use Rattle.erm_replica.specs.Found.{Finds}
use Rattle.erm_replica.specs.Stream.{IsShort, IsUnreadable}
use Rattle.erm_replica_rows.specs.Reading.{rows_with}
use Rattle.erm_replica_rows.proofs.Seen.{advances, not_met, same_lack, set_met, stuck_at}
use Rattle.erm_replica_rows.proofs.reader.advance.Goals as goal

pub returns-in-Err-clause-short : goal.returns-in-Err-clause-short
returns-in-Err-clause-short g c = λ e.
    subst (λ (rest : List ℕ). IsShort c.args.reader.now.log rest) (take_rest c.args.bytes.now c.args.reader.now.index) (c.in-Err.ensures.short (ap Err (same_lack c.in-Err.lack lack.Short e)))

pub returns-in-Err-clause-stuck : goal.returns-in-Err-clause-stuck
returns-in-Err-clause-stuck g c = λ e.
    inl (subst (λ (rest : List ℕ). IsUnreadable c.args.reader.now.log rest) (take_rest c.args.bytes.now c.args.reader.now.index) (c.in-Err.ensures.unreadable (ap Err (same_lack c.in-Err.lack lack.Unreadable e))))

pub returns-then-not-set_item-clause-stuck : goal.returns-then-not-set_item-clause-stuck
returns-then-not-set_item-clause-stuck g c = λ e.
    let finds = subst (λ (rest : List ℕ). Finds c.args.reader.now.log rest c.find.new.rows c.in-Ok.found) (take_rest c.args.bytes.now c.args.reader.now.index) c.in-Ok.ensures.found in
    let found : c.deref_mut-2.result.now ≡ c.find.new.rows = c.deref_mut-2.ensures.value ∙ with_items_is c.args.reader.now.rows c.find.new.rows (omega (arith, c.find.auto.rows, c.deref_mut.ensures.len)) in
    stuck_at g.T.RowLaw.law.meets c.respects_rows.ensures.meets c.args.bytes.now c.args.reader.now
    (record c.args.reader.now { rows = with_items (with_items c.args.reader.now.rows c.find.new.rows) c.set_item.new.rows })
    c.in-Ok.found c.find.new.rows finds
    (λ met. not_met c.set_item.result _ c.if-not-set_item.true c.set_item.ensures.test
    (subst (λ (r : List (List ℕ)). g.T.RowLaw.law.meets (rows_with c.in-Ok.found.item (rows_of r))) (sym found) met))
    refl refl
    (with_items_is (with_items c.args.reader.now.rows c.find.new.rows) c.set_item.new.rows (omega (arith, c.set_item.auto.rows, c.deref_mut-2.ensures.len)) ∙ c.if-not-set_item.ensures.kept ∙ found)

pub returns-clause-takes : goal.returns-clause-takes
returns-clause-takes g c =
    let finds = subst (λ (rest : List ℕ). Finds c.args.reader.now.log rest c.find.new.rows c.in-Ok.found) (take_rest c.args.bytes.now c.args.reader.now.index) c.in-Ok.ensures.found in
    let found : c.deref_mut-2.result.now ≡ c.find.new.rows = c.deref_mut-2.ensures.value ∙ with_items_is c.args.reader.now.rows c.find.new.rows (omega (arith, c.find.auto.rows, c.deref_mut.ensures.len)) in
    advances c.args.bytes.now c.args.reader.now _ c.in-Ok.found c.find.new.rows finds (λ there. c.in-Ok.ensures.kept there ∙ c.deref_mut.ensures.value)
    (ap rows_of (with_items_is (with_items c.args.reader.now.rows c.find.new.rows) c.set_item.new.rows (omega (arith, c.set_item.auto.rows, c.deref_mut-2.ensures.len)))
    ∙ set_met c.set_item.result _ c.if-not-set_item.false c.set_item.ensures.set ∙ ap (λ (r : List (List ℕ)). rows_with c.in-Ok.found.item (rows_of r)) found)
    refl refl refl
