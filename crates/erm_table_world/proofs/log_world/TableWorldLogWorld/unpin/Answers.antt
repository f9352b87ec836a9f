use Rattle.std.proofs.Common.{ap}
use Rattle.erm_world.specs.Log.{Log}
use Rattle.erm_table_world.specs.Stands.{table_log}
use Rattle.erm_table_world.proofs.Turned.{after_turn, for_some, some_pin, turn_keeps, turn_stands, unpinned_there}
use Rattle.erm_table_world.proofs.log_world.TableWorldLogWorld.unpin.Goals as goal

pub unpin-requires-clause-stands : goal.unpin-requires-clause-stands
unpin-requires-clause-stands g c = for_some g.L.RowLaw.law c.args.self.now c.requires.stands.stands

pub unpin-requires-clause-pinned : goal.unpin-requires-clause-pinned
unpin-requires-clause-pinned g c =
    let w = c.args.self.now in
    let stands = c.requires.stands.stands in
    (w.pin, some_pin (table_log w).pinned w.pin c.requires.pinned stands.pin)

pub returns-clause-stands : goal.returns-clause-stands
returns-clause-stands g c =
    let w = c.args.self.now in
    let stands = c.requires.stands.stands in
    let done = c.unpin.ensures in
    let to = after_turn w c.unpin.new.p w.pin in
    c.standing_worlds_have_laws.ensures to
    (turn_stands g.L.RowLaw.law w stands c.unpin.new.p done.fits (done.turned w.count stands.at) w.pin
    (unpinned_there (table_log to).pinned w.pin (ap (λ (log : Log). log.pinned) (done.unpinned w.count stands.at))))

pub returns-clause-keeps : goal.returns-clause-keeps
returns-clause-keeps g c =
    let w = c.args.self.now in
    let stands = c.requires.stands.stands in
    let done = c.unpin.ensures in
    turn_keeps g.L.RowLaw.law w stands c.unpin.new.p done.fits (done.turned w.count stands.at) w.pin
    (unpinned_there (table_log (after_turn w c.unpin.new.p w.pin)).pinned w.pin (ap (λ (log : Log). log.pinned) (done.unpinned w.count stands.at)))

pub returns-clause-unpinned : goal.returns-clause-unpinned
returns-clause-unpinned g c = let stands = c.requires.stands.stands in c.unpin.ensures.unpinned c.args.self.now.count stands.at
