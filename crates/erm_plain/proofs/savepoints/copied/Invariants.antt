use Rattle.std.proofs.Common.{◌≡◌, map, take}
use Rattle.erm_machine.specs.Decided.{written_of}
use Rattle.erm_plain.proofs.savepoints.copied.Given as goal

abbrev pub invariant-loop-c : goal.invariant-loop-c
invariant-loop-c l = l.copy.items ≡ map written_of (take l.c-index l.claims)
