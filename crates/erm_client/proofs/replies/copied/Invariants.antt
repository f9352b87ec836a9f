use Rattle.std.proofs.Common.{◌≡◌, take}
use Rattle.erm_client.proofs.replies.copied.Given as goal

-- the first ones are copied
abbrev pub invariant-loop-pair : goal.invariant-loop-pair
invariant-loop-pair l = l.copy.items ≡ take l.pair-index l.pairs
