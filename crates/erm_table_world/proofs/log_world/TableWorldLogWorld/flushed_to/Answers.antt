use Rattle.std.proofs.Common.{ap}
use Rattle.erm_world.specs.Log.{Log}
use Rattle.erm_table_world.proofs.Turned.{after_turn, for_some, still_keeps, still_stands}
use Rattle.erm_table_world.proofs.log_world.TableWorldLogWorld.flushed_to.Goals as goal

pub flushed_to-requires-clause-stands : goal.flushed_to-requires-clause-stands
flushed_to-requires-clause-stands g c = for_some g.L.RowLaw.law c.args.self.now c.requires.stands.stands

pub returns-clause-stands : goal.returns-clause-stands
returns-clause-stands g c =
    let w = c.args.self.now in
    let stands = c.requires.stands.stands in
    let done = c.flushed_to.ensures in
    c.standing_worlds_have_laws.ensures (after_turn w c.flushed_to.new.p w.pin)
    (still_stands g.L.RowLaw.law w stands c.flushed_to.new.p done.fits (done.turned w.count stands.at) (ap (λ (log : Log). log.pinned) (done.flushed w.count stands.at)))

pub returns-clause-keeps : goal.returns-clause-keeps
returns-clause-keeps g c =
    let w = c.args.self.now in
    let stands = c.requires.stands.stands in
    let done = c.flushed_to.ensures in
    still_keeps g.L.RowLaw.law w stands c.flushed_to.new.p done.fits (done.turned w.count stands.at) (ap (λ (log : Log). log.pinned) (done.flushed w.count stands.at))

pub returns-clause-flushed : goal.returns-clause-flushed
returns-clause-flushed g c = let stands = c.requires.stands.stands in c.flushed_to.ensures.flushed c.args.self.now.count stands.at
