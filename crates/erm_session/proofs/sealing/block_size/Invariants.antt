use Rattle.std.proofs.Common.{◌≡◌, ◌≤◌, ◌+◌, ◌*◌, take}
use Rattle.erm_record.specs.Stored.{block_words}
use Rattle.erm_session.proofs.sealing.block_size.Given as goal

abbrev pub invariant-loop-row : goal.invariant-loop-row
invariant-loop-row l = record {
  so_far : l.size ≡ block_words (take l.row-index l.rows);
  most : l.size ≤ 5 + 17 * l.row-index;
  least : 5 ≤ l.size;
}
