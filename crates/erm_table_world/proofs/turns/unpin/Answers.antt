use Rattle.std.proofs.Common.{ap, is_some}
use Rattle.erm_table_world.proofs.TurnPins.{pin_in_view, unpins}
use Rattle.erm_table_world.proofs.turns.unpin.Goals as goal

pub unpin-requires-clause-pinned : goal.unpin-requires-clause-pinned
unpin-requires-clause-pinned g c =
    let stands = c.requires.stands in
    pin_in_view g.L.RowLaw.law stands.0 c.args.p.now.me.0 c.args.p.now.me.0 stands.1 (ap is_some c.requires.pinned.1)

pub returns-clause-turned : goal.returns-clause-turned
returns-clause-turned g c sessions at =
    (unpins g.L.RowLaw.law sessions c.args.p.now.me.0 c.unpin.new.p.me.0 at c.unpin.ensures.took.0 (ap is_some c.requires.pinned.1) c.unpin.ensures.took.1 c.unpin.ensures.unpinned).turned

pub returns-clause-unpinned : goal.returns-clause-unpinned
returns-clause-unpinned g c sessions at =
    (unpins g.L.RowLaw.law sessions c.args.p.now.me.0 c.unpin.new.p.me.0 at c.unpin.ensures.took.0 (ap is_some c.requires.pinned.1) c.unpin.ensures.took.1 c.unpin.ensures.unpinned).log_is
