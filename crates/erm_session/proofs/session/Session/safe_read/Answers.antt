use Rattle.erm_session.proofs.Snapshots.{not_safe, read_session, rests_is_safe, stands_safe}
use Rattle.erm_session.proofs.session.Session.safe_read.Goals as goal

pub safe_read-requires-clause-active : goal.safe_read-requires-clause-active
safe_read-requires-clause-active g c = (stands_safe c.args.self.now c.args.p.now.me.0 c.requires.stands c.in-Safe.begin c.in-Safe.is).0

pub safe_read-requires-clause-safe : goal.safe_read-requires-clause-safe
safe_read-requires-clause-safe g c = rests_is_safe _ (stands_safe c.args.self.now c.args.p.now.me.0 c.requires.stands c.in-Safe.begin c.in-Safe.is).1

pub safe_read-requires-clause-begin : goal.safe_read-requires-clause-begin
safe_read-requires-clause-begin g c = (stands_safe c.args.self.now c.args.p.now.me.0 c.requires.stands c.in-Safe.begin c.in-Safe.is).2

pub returns-clause-known : goal.returns-clause-known
returns-clause-known g c = c.safe_read.ensures.read.known

pub returns-clause-stands : goal.returns-clause-stands
returns-clause-stands g c =
    read_session c.args.self.now c.args.p.now.me.0 c.requires.stands c.in-Safe.begin c.in-Safe.is c.args.oid c.safe_read.result c.safe_read.new.p.me.0 c.safe_read.ensures.read

pub unreachable-requires : goal.unreachable-requires
unreachable-requires g c = not_safe c.args.self.now.stage c.requires.safe c.in_default.not-Safe
