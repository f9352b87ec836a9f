use Rattle.std.proofs.Common.{refl}
use Rattle.erm_rule.proofs.Wents.{went_one}
use Rattle.erm_ends.proofs.Leaves.{session_seat}
use Rattle.erm_ends.proofs.Safe.{did_abort_safe, did_end_safe, safe_held, safe_ready}
use Rattle.erm_ends.proofs.ending.end_safe.Goals as goal

pub store_begin-requires-clause-held : goal.store_begin-requires-clause-held
store_begin-requires-clause-held g c = safe_held c.args.p.now.me.0.view c.args.who c.requires.known c.requires.session c.requires.active c.requires.snapshot

pub store_begin-requires-clause-seat : goal.store_begin-requires-clause-seat
store_begin-requires-clause-seat g c = session_seat c.args.who c.requires.session

pub store_begin-requires-clause-ready : goal.store_begin-requires-clause-ready
store_begin-requires-clause-ready g c = safe_ready c.args.p.now.me.0.view c.args.who c.requires.known c.requires.session c.requires.active c.requires.snapshot

pub returns-clause-ended : goal.returns-clause-ended
returns-clause-ended g c =
    did_end_safe c.args.p.now.me.0.view c.args.who c.requires.known c.requires.session c.requires.active c.requires.snapshot c.store_begin.ensures.told.0 _ c.store_begin.ensures.told.1.told

pub returns-clause-aborted : goal.returns-clause-aborted
returns-clause-aborted g c =
    did_abort_safe c.args.p.now.me.0.view c.args.who c.requires.known c.requires.session c.requires.active c.requires.snapshot c.store_begin.ensures.told.0 _ c.store_begin.ensures.told.1.told

pub returns-clause-ends : goal.returns-clause-ends
returns-clause-ends g c = went_one _ _ _ _ _ _ _ refl c.store_begin.ensures.booked.1

pub returns-clause-took : goal.returns-clause-took
returns-clause-took g c = c.store_begin.ensures.booked
