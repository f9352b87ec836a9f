use Rattle.erm_session.proofs.Snapshots.{not_snapshot, pending_begins, safe_begins}
use Rattle.erm_session.proofs.session.Session.snapshot_begin.Goals as goal

pub returns-in-Pending : goal.returns-in-Pending
returns-in-Pending c = pending_begins c.args.self.now c.in-Pending.begin c.in-Pending.next c.in-Pending.is

pub returns-in-Safe : goal.returns-in-Safe
returns-in-Safe c = safe_begins c.args.self.now c.in-Safe.begin c.in-Safe.is

pub unreachable-requires : goal.unreachable-requires
unreachable-requires c = not_snapshot c.args.self.now.stage c.requires.snapshot c.in_default.not-Pending c.in_default.not-Safe
