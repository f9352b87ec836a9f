use Rattle.std.proofs.Common.{◌≡◌, ◌+◌, ◌*◌, ◌≤◌, take}
use Rattle.std.specs.Prelude.{sum_by}
use Rattle.erm_record.specs.Stored.{stored_words}
use Rattle.erm_block.proofs.entries.stored_size.Given as goal

-- the frame and the entries so far, each of seventeen words at most
abbrev pub invariant-loop-entry : goal.invariant-loop-entry
invariant-loop-entry l = record {
  size_is : l.size ≡ 5 + sum_by (λ entry. stored_words entry.1) (take l.entry-index l.entries);
  few : l.size ≤ 5 + 17 * l.entry-index;
}
