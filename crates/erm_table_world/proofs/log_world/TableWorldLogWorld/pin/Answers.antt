use Rattle.std.proofs.Common.{ap, arith}
use Rattle.erm_world.specs.Log.{Log}
use Rattle.erm_table_world.specs.Stands.{table_log}
use Rattle.erm_table_world.proofs.Turned.{after_turn, for_some, pinned_there, turn_keeps, turn_stands}
use Rattle.erm_table_world.proofs.log_world.TableWorldLogWorld.pin.Goals as goal

pub pin-place-requires-clause-stands : goal.pin-place-requires-clause-stands
pin-place-requires-clause-stands g c = for_some g.L.RowLaw.law c.args.self.now c.requires.stands.stands

pub returns-clause-stands : goal.returns-clause-stands
returns-clause-stands g c =
    let w = c.args.self.now in
    let stands = c.requires.stands.stands in
    let done = c.pin-place.ensures in
    let place = c.pin-place.result in
    let to = after_turn w c.pin-place.new.p place in
    c.standing_worlds_have_laws.ensures to
    (turn_stands g.L.RowLaw.law w stands c.pin-place.new.p done.fits (done.turned w.count stands.at) place
    (pinned_there (table_log to).pinned place (ap (λ (log : Log). log.pinned) (done.pinned w.count stands.at))))

pub returns-clause-keeps : goal.returns-clause-keeps
returns-clause-keeps g c =
    let w = c.args.self.now in
    let stands = c.requires.stands.stands in
    let done = c.pin-place.ensures in
    let place = c.pin-place.result in
    turn_keeps g.L.RowLaw.law w stands c.pin-place.new.p done.fits (done.turned w.count stands.at) place
    (pinned_there (table_log (after_turn w c.pin-place.new.p place)).pinned place (ap (λ (log : Log). log.pinned) (done.pinned w.count stands.at)))

pub returns-clause-place : goal.returns-clause-place
returns-clause-place g c = let place = c.pin-place.ensures.place in omega (arith, place)

pub returns-clause-pinned : goal.returns-clause-pinned
returns-clause-pinned g c = let stands = c.requires.stands.stands in c.pin-place.ensures.pinned c.args.self.now.count stands.at
