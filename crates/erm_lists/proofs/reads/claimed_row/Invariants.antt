use Rattle.std.proofs.Common.{map, take}
use Rattle.erm_machine.specs.Decided.{written_of}
use Rattle.erm_core_steps.proofs.Rows.{IsRowOf}
use Rattle.erm_lists.proofs.reads.claimed_row.Given as goal

abbrev pub invariant-loop-c : goal.invariant-loop-c
invariant-loop-c l = IsRowOf (map written_of (take l.c-index l.claims)) l.oid l.row
