use Rattle.std.proofs.Common.{◌≡◌, ◌++◌, map}
use Rattle.erm_report.specs.declared.line.Line.TheVariants as line
use Rattle.erm_inspect.proofs.map_lines.push_map.Given as goal

-- the pairs so far have their lines
abbrev pub invariant-loop-pair : goal.invariant-loop-pair
invariant-loop-pair l = l.lines.items ≡ l.initial.lines.items ++ map line.Pair l.yielded
