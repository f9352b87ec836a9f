use Rattle.std.proofs.Common.{◌≡◌, take}
use Rattle.erm_run_at_once.proofs.room.copied_names.Given as goal

-- the names so far
abbrev pub invariant-loop-name : goal.invariant-loop-name
invariant-loop-name l = l.all.items ≡ take l.name-index l.names
