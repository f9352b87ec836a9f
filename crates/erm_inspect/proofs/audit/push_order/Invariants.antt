use Rattle.std.proofs.Common.{◌≡◌, take, ◌++◌}
use Rattle.erm_audit.specs.Order.{commits_at}
use Rattle.erm_inspect.specs.Audits.{order_lines}
use Rattle.erm_inspect.proofs.audit.push_order.Given as goal

-- the commits so far have their lines
abbrev pub invariant-loop-place : goal.invariant-loop-place
invariant-loop-place l =
    l.lines.items ≡ l.fn.lines.items ++ order_lines l.commits (commits_at l.commits (take l.place-index l.order))
