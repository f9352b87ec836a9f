use Rattle.std.proofs.Common.{◌≡◌, ℕ, ◌+◌, ◌*◌, drop}
use Rattle.std.specs.Prelude.{◌↔◌}
use Rattle.erm_model.specs.Rows.{rows_of}
use Rattle.erm_node.specs.Tree.{times, total}
use Rattle.erm_node.specs.Walk.{IsFreeFan, marked}
use Rattle.erm_node.proofs.soundness.+walk.Given as goal

abbrev pub decreases-is_fan : goal.decreases-is_fan
decreases-is_fan l = 2 * l.levels + 1

abbrev pub decreases-is_tree : goal.decreases-is_tree
decreases-is_tree l = 2 * l.part.levels

-- the others decide, and what they reach is what is left to mark
abbrev pub invariant-is_fan-loop-i : goal.invariant-is_fan-loop-i
invariant-is_fan-loop-i l = record {
  rest : IsFreeFan (rows_of l.rows) (marked l.initial.reached) l.levels l.pairs l.hi ↔ IsFreeFan (rows_of l.rows) (marked l.reached) l.levels (drop l.i l.pairs) l.hi;
  marks : (x : ℕ) → marked l.reached x + total (λ pair. times (rows_of l.rows) l.levels pair.1 x) (drop l.i l.pairs) ≡ marked l.initial.reached x + total (λ pair. times (rows_of l.rows) l.levels pair.1 x) l.pairs;
}
