use Rattle.std.proofs.Common.{◌≡◌, ◌-◌, ◌++◌, [], length, replicate}
use Rattle.erm_run_at_once.proofs.room.add_spare.Given as goal

-- the names, and so many spare ones
abbrev pub invariant-loop : goal.invariant-loop
invariant-loop l = l.names.items ≡ l.fn.names.items ++ replicate (l.counter - length l.fn.names.items) []
