use Rattle.std.proofs.Common.{◌≡◌, ◌*◌, ◌≤◌, ◌^◌, take}
use Rattle.erm_accounts.specs.Totals.{sum_found}
use Rattle.erm_tellers.proofs.shown.sum_of.Given as goal

-- the sum of the first ones, each of which is below 2 ^ 64
abbrev pub invariant-loop-pair : goal.invariant-loop-pair
invariant-loop-pair l = record {
  is : l.sum ≡ sum_found (take l.pair-index l.found);
  below : l.sum ≤ 2 ^ 64 * l.pair-index;
}
