use Rattle.std.proofs.Common.{◌≡◌, drop}
use Rattle.erm_follow.proofs.turn.drop_first.Given as goal

abbrev pub invariant-loop : goal.invariant-loop
invariant-loop l = l.waiting.keys ≡ drop l.counter l.fn.waiting.keys
