use Rattle.erm_machine.specs.declared.limits.TheConstants.{FLUSH_SEAT}
use Rattle.erm_rule.proofs.Telling.{is_held}
use Rattle.erm_pin.proofs.Pinning.{did_unpin, pin_held, unpin_ready}
use Rattle.erm_pin.proofs.pins.unpin.Goals as goal

pub store_begin-requires-clause-held : goal.store_begin-requires-clause-held
store_begin-requires-clause-held g c = is_held c.args.p.now.me.0.view FLUSH_SEAT _ (pin_held c.args.p.now.me.0.view c.requires.pinned)

pub store_begin-requires-clause-ready : goal.store_begin-requires-clause-ready
store_begin-requires-clause-ready g c = unpin_ready c.args.p.now.me.0.view c.requires.pinned

pub returns-clause-unpinned : goal.returns-clause-unpinned
returns-clause-unpinned g c = did_unpin c.args.p.now.me.0.view c.requires.pinned c.store_begin.ensures.told.0 c.store_begin.new.p.me.0.view c.store_begin.ensures.told.1.told

pub returns-clause-took : goal.returns-clause-took
returns-clause-took g c = c.store_begin.ensures.booked
