use Rattle.std.proofs.Common.{take}
use Rattle.erm_audit.specs.Replay.{lists_of}
use Rattle.erm_audit.proofs.Transactions.{HasReplayed}
use Rattle.erm_audit.proofs.replays.replay.Given as goal

abbrev pub invariant-loop-ops : goal.invariant-loop-ops
invariant-loop-ops l =
    HasReplayed l.fn.map (lists_of (take l.ops-index l.transactions)) (lists_of l.replies.items) l.map
