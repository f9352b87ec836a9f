use Rattle.std.proofs.Common.{◌≡◌, take}
use Rattle.erm_session.specs.Settle.{entries_kept}
use Rattle.erm_session.proofs.finishing.add_entries.Given as goal

abbrev pub invariant-loop-k : goal.invariant-loop-k
invariant-loop-k l = l.entries.items ≡ entries_kept (take l.k l.claims) (take l.k l.rows)
