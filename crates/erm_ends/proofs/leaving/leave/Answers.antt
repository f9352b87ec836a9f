use Rattle.std.proofs.Common.{refl}
use Rattle.erm_ends.proofs.Leaves.{did_leave, leave_begin, leave_held, leave_held_2, leave_state, session_seat}
use Rattle.erm_ends.proofs.leaving.leave.Goals as goal

pub store_begin-requires-clause-held : goal.store_begin-requires-clause-held
store_begin-requires-clause-held g c = leave_held c.args.p.now.me.0.view c.args.who c.requires.may

pub store_begin-requires-clause-seat : goal.store_begin-requires-clause-seat
store_begin-requires-clause-seat g c = session_seat c.args.who c.requires.session

pub store_begin-requires-clause-ready : goal.store_begin-requires-clause-ready
store_begin-requires-clause-ready g c = leave_begin c.args.p.now.me.0.view c.args.who c.requires.may

pub store_state-requires-clause-held : goal.store_state-requires-clause-held
store_state-requires-clause-held g c = leave_held_2 c.args.p.now.me.0.view c.args.who c.requires.may c.store_begin.ensures.told.0 _ c.store_begin.ensures.told.1.told

pub store_state-requires-clause-seat : goal.store_state-requires-clause-seat
store_state-requires-clause-seat g c = session_seat c.args.who c.requires.session

pub store_state-requires-clause-ready : goal.store_state-requires-clause-ready
store_state-requires-clause-ready g c = leave_state c.args.p.now.me.0.view c.args.who c.requires.may c.store_begin.ensures.told.0 _ c.store_begin.ensures.told.1.told

pub returns-clause-left : goal.returns-clause-left
returns-clause-left g c = did_leave c.args.p.now.me.0.view c.args.who c.requires.may c.store_begin.ensures.told.0 _ c.store_begin.ensures.told.1.told c.store_state.ensures.told.0 _ c.store_state.ensures.told.1.told

pub returns-clause-took : goal.returns-clause-took
returns-clause-took g c = (c.store_begin.ensures.booked.0, c.store_state.ensures.booked.0, (_, (_, refl, c.store_begin.ensures.booked.1), c.store_state.ensures.booked.1))
