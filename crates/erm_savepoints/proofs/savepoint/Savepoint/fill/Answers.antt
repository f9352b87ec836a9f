use Rattle.std.proofs.Common.{add-one, length, List, Option, ℕ, take, ap, sym, subst, ◌∙◌, arith}
use Rattle.std.specs.Prelude.{false, [], ◌∷◌, ◌++◌, ◌≤◌}
use Rattle.erm_model.specs.declared.limits.TheConstants.{WRITE_LIMIT}
use Rattle.erm_savepoints.specs.Saves.{rows_set}
use Rattle.erm_savepoints.proofs.Filled.{rows_set_front, rows_set_next}
use Rattle.erm_savepoints.proofs.savepoint.Savepoint.fill.Goals as goal

pub push_reserved-requires : goal.push_reserved-requires
push_reserved-requires c =
    let rows = c.args.rows.now in
    let is_set = c.args.is_set.now in
    let count = rows_set_front rows is_set c.loop-i.i c.loop-i-test.true c.requires.as_many in
    let long = ap (λ (ss : List (Option (List ℕ))). length ss) c.loop-i.invariant.0 in
    let items = c.loop-i.self-inside.rows.ok.0 in
    let room = c.loop-i.invariant.1 in
    let few = c.requires.few in
    omega (arith, count, long, items, room, few, c.loop-i-test.true)

pub loop-i-preserved : goal.loop-i-preserved
loop-i-preserved c = (
  c.push_reserved.ensures.items
      ∙ ap (λ (ss : List (Option (List ℕ))). ss ++ c.set_row.result ∷ []) c.loop-i.invariant.0
      ∙ ap (λ (s : Option (List ℕ)). rows_set (take c.loop-i.i c.args.rows.now) (take c.loop-i.i c.args.is_set.now) ++ s ∷ []) c.set_row.ensures
      ∙ sym (rows_set_next c.args.rows.now c.args.is_set.now c.loop-i.i [] false c.loop-i-test.true c.requires.as_many)
      ∙ ap (λ (n : ℕ). rows_set (take n c.args.rows.now) (take n c.args.is_set.now)) (sym (add-one c.loop-i.i)),
  subst (λ (n : ℕ). WRITE_LIMIT ≤ n) (sym c.push_reserved.ensures.capacity) c.loop-i.invariant.1,
)
