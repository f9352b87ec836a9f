use Rattle.erm_session.proofs.Snapshots.{ended_safe}
use Rattle.erm_session.proofs.session.Session.leave_snapshot.Goals as goal

pub end_safe-requires-clause-session : goal.end_safe-requires-clause-session
end_safe-requires-clause-session g c = c.requires.may.session

pub end_safe-requires-clause-active : goal.end_safe-requires-clause-active
end_safe-requires-clause-active g c = c.requires.may.active

pub end_safe-requires-clause-snapshot : goal.end_safe-requires-clause-snapshot
end_safe-requires-clause-snapshot g c = c.requires.may.snapshot

pub returns-clause-stands : goal.returns-clause-stands
returns-clause-stands g c = ended_safe c.args.self.now c.args.p.now.me.0.view c.requires.known c.requires.may c.end_safe.new.p.me.0.view c.end_safe.ensures.ended
