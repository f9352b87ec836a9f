use Rattle.std.proofs.Common.{◌≡◌, map, take}
use Rattle.erm_machine.specs.declared.attempt.Decision.TheVariants.{Commit}
use Rattle.erm_machine.specs.Decided.{written_of}
use Rattle.erm_core_blocks.specs.Spelled.{entries_of}
use Rattle.erm_lists.proofs.blocks.add_entries.Given as goal

abbrev pub invariant-loop-claim : goal.invariant-loop-claim
invariant-loop-claim l = l.entries.items ≡ entries_of Commit (map written_of (take l.claim-index l.claims))
