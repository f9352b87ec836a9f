use Rattle.erm_session.proofs.Snapshots.{may_end_safe}
use Rattle.erm_session.proofs.session.Session.end_safe.Goals as goal

pub leave_snapshot-requires-clause-may : goal.leave_snapshot-requires-clause-may
leave_snapshot-requires-clause-may g c = may_end_safe c.args.self.now _ c.requires.stands c.requires.snapshot
