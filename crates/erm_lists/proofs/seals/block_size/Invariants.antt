use Rattle.std.proofs.Common.{◌≡◌, ◌≤◌, ◌+◌, ◌*◌, map, take}
use Rattle.erm_record.specs.Stored.{block_words}
use Rattle.erm_lists.proofs.seals.block_size.Given as goal

abbrev pub invariant-loop-c : goal.invariant-loop-c
invariant-loop-c l = record {
  so_far : l.size ≡ block_words (map (λ c. c.row) (take l.c-index l.claims));
  most : l.size ≤ 5 + 17 * l.c-index;
  least : 5 ≤ l.size;
}
