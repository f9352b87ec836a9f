use Rattle.erm_table_world.proofs.TurnPins.{is_unpinned, pins}
use Rattle.erm_table_world.proofs.turns.pin.Goals as goal

pub pin-requires-clause-unpinned : goal.pin-requires-clause-unpinned
pin-requires-clause-unpinned g c =
    let stands = c.requires.stands in is_unpinned g.L.RowLaw.law stands.0 c.args.p.now.me.0 c.args.p.now.me.0 stands.1 c.requires.unpinned

pub returns-clause-turned : goal.returns-clause-turned
returns-clause-turned g c sessions at =
    (pins g.L.RowLaw.law sessions c.args.p.now.me.0 c.pin.new.p.me.0 at c.pin.result c.requires.unpinned c.pin.ensures.took c.pin.ensures.pinned.starts).turned

pub returns-clause-place : goal.returns-clause-place
returns-clause-place g c =
    let stands = c.requires.stands in
    (pins g.L.RowLaw.law stands.0 c.args.p.now.me.0 c.pin.new.p.me.0 stands.1 c.pin.result c.requires.unpinned c.pin.ensures.took c.pin.ensures.pinned.starts).place_is

pub returns-clause-pinned : goal.returns-clause-pinned
returns-clause-pinned g c sessions at =
    (pins g.L.RowLaw.law sessions c.args.p.now.me.0 c.pin.new.p.me.0 at c.pin.result c.requires.unpinned c.pin.ensures.took c.pin.ensures.pinned.starts).log_is
