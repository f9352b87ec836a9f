use Rattle.erm_table_world.specs.Stands.{table_log}
use Rattle.erm_table_world.proofs.Turned.{after_turn, for_some, gathers_pinned, still_keeps, still_stands}
use Rattle.erm_table_world.proofs.log_world.TableWorldLogWorld.gather.Goals as goal

pub gather-requires-clause-stands : goal.gather-requires-clause-stands
gather-requires-clause-stands g c = for_some g.L.RowLaw.law c.args.self.now c.requires.stands.stands

pub returns-clause-stands : goal.returns-clause-stands
returns-clause-stands g c =
    let law = g.L.RowLaw.law in
    let w = c.args.self.now in
    let stands = c.requires.stands.stands in
    let done = c.gather.ensures in
    let to = after_turn w c.gather.new.p w.pin in
    let same = gathers_pinned c.gather.result (table_log w) (table_log to) c.gather.new.words (done.gathers w.count stands.at) in
    c.standing_worlds_have_laws.ensures to (still_stands law w stands c.gather.new.p done.fits (done.turned w.count stands.at) same)

pub returns-clause-keeps : goal.returns-clause-keeps
returns-clause-keeps g c =
    let law = g.L.RowLaw.law in
    let w = c.args.self.now in
    let stands = c.requires.stands.stands in
    let done = c.gather.ensures in
    let same = gathers_pinned c.gather.result (table_log w) (table_log (after_turn w c.gather.new.p w.pin)) c.gather.new.words (done.gathers w.count stands.at) in
    still_keeps law w stands c.gather.new.p done.fits (done.turned w.count stands.at) same

pub returns-clause-gathers : goal.returns-clause-gathers
returns-clause-gathers g c = let stands = c.requires.stands.stands in c.gather.ensures.gathers c.args.self.now.count stands.at
