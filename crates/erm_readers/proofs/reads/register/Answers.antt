use Rattle.erm_rule.proofs.Telling.{is_held}
use Rattle.erm_cells.proofs.Heads.{has}
use Rattle.erm_readers.proofs.Registering.{cell_of_found, did_register, object_of_found, ready_read}
use Rattle.erm_readers.proofs.reads.register.Goals as goal

pub set_reader-requires-clause-held : goal.set_reader-requires-clause-held
set_reader-requires-clause-held g c = is_held c.args.p.now.me.0.view c.args.who _ (has c.args.p.now.me.0.view c.args.who c.requires.active)

pub set_reader-requires-clause-object : goal.set_reader-requires-clause-object
set_reader-requires-clause-object g c = object_of_found c.args.p.now.me.0.view c.args.who c.args.cell c.requires.active c.requires.session c.requires.room c.requires.found c.requires.known

pub set_reader-requires-clause-cell : goal.set_reader-requires-clause-cell
set_reader-requires-clause-cell g c = cell_of_found c.args.p.now.me.0.view c.args.who c.args.cell c.requires.active c.requires.session c.requires.room c.requires.found

pub set_reader-requires-clause-ready : goal.set_reader-requires-clause-ready
set_reader-requires-clause-ready g c = ready_read c.args.p.now.me.0.view c.args.who c.args.cell c.requires.active c.requires.session c.requires.room c.requires.found

pub returns-clause-registered : goal.returns-clause-registered
returns-clause-registered g c = did_register c.args.p.now.me.0.view c.args.who c.args.cell c.requires.active c.requires.session c.requires.room c.requires.found c.set_reader.ensures.told.0 _ c.set_reader.ensures.told.1.told
