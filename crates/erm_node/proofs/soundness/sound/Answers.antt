use Rattle.std.proofs.Common.{◌≡◌, ◌+◌, ◌^◌, ℕ, refl, sym, ◌∙◌, arith}
use Rattle.erm_model.specs.Rows.{rows_of}
use Rattle.erm_node.specs.Sound.{IsSound}
use Rattle.erm_node.specs.Tree.{times}
use Rattle.erm_node.specs.Walk.{IsFreeTree, marked}
use Rattle.erm_node.proofs.Reached.{IsSound-free, AreTables-none, AreTables-more, IsSound-tables, at_table, from_table}
use Rattle.erm_node.proofs.Walks.{marked-le, told_no, told_on}
use Rattle.std.proofs.lemmas.Bool.{false≢true}
use Rattle.erm_node.proofs.soundness.sound.Goals as goal

pub loop-table-init : goal.loop-table-init
loop-table-init c = AreTables-none (rows_of c.args.rows.now)

pub loop-table-preserved : goal.loop-table-preserved
loop-table-preserved c =
    let rows = rows_of c.args.rows.now in
    let table = c.loop-table.table in
    let marks = told_on c.is_tree.result _ c.if-not-is_tree.false c.is_tree.ensures.marks in
    let free = c.is_tree.ensures.free.0 c.if-not-is_tree.false in
    AreTables-more rows c.loop-table.reached c.is_tree.new.reached table c.loop-table.invariant
    (at_table (λ (n oid : ℕ). IsFreeTree rows (marked c.loop-table.reached) n 0 oid 0 (2 ^ 64)) rows c.levels.result c.from-oid.result table c.levels.ensures c.from-oid.ensures free)
    (at_table (λ (n oid : ℕ). (x : ℕ) → marked c.is_tree.new.reached x ≡ marked c.loop-table.reached x + times rows n oid x) rows c.levels.result c.from-oid.result table c.levels.ensures c.from-oid.ensures marks)

pub returns-then-not-is_tree : goal.returns-then-not-is_tree
returns-then-not-is_tree c =
    let rows = rows_of c.args.rows.now in
    let table = c.loop-table.table in
    told_no (IsSound rows) (λ sound.
    let free = IsSound-free rows (marked c.loop-table.reached) table sound c.loop-table-test.true c.loop-table.invariant.counted in
    let there = from_table (λ (n oid : ℕ). IsFreeTree rows (marked c.loop-table.reached) n 0 oid 0 (2 ^ 64)) rows c.levels.result c.from-oid.result table c.levels.ensures c.from-oid.ensures free in
    false≢true (sym c.if-not-is_tree.true ∙ c.is_tree.ensures.free.1 there))

pub returns : goal.returns
returns c =
    let sound = IsSound-tables (rows_of c.args.rows.now) c.loop-table.reached c.loop-table.table (omega arith) (omega arith) c.loop-table.invariant (marked-le c.loop-table.reached) in
    (λ _. sound, λ _. refl)
