use Rattle.std.proofs.Common.{◌≡◌, length, map, take, ◌∷◌, ◌++◌}
use Rattle.erm_report.specs.declared.line.Line.TheVariants as line
use Rattle.erm_summary.specs.Summary.{at_places, order_told}
use Rattle.erm_summary.proofs.report.push_order.Given as goal

-- the commits so far have their lines
abbrev pub invariant-loop-place : goal.invariant-loop-place
invariant-loop-place l =
    l.lines.items ≡ l.fn.lines.items ++ line.Order (length l.commits) ∷ map (order_told l.names) (at_places l.commits (take l.place-index l.order))
