use Rattle.std.proofs.Common.{arith}
use Rattle.erm_start.proofs.Zeros.{zeros-count, zeros-first, zeros-map}
use Rattle.erm_start.proofs.laws.zero_rows_are_the_empty_map.Goals as goal

pub returns-clause-map : goal.returns-clause-map
returns-clause-map c rows none = zeros-map rows (λ oid below. none oid (omega (arith, below)))

pub returns-clause-rows : goal.returns-clause-rows
returns-clause-rows c = zeros-count

pub returns-clause-first : goal.returns-clause-first
returns-clause-first c = zeros-first
