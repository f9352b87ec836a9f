use Rattle.erm_rule.proofs.Telling.{is_held}
use Rattle.erm_readers.proofs.Clearing.{did_unregister, has_ending, object_of_cleared, ready_clear}
use Rattle.erm_readers.proofs.ends.unregister.Goals as goal

pub clear_reader-requires-clause-held : goal.clear_reader-requires-clause-held
clear_reader-requires-clause-held g c = is_held c.args.p.now.me.0.view c.args.who _ (has_ending c.args.p.now.me.0.view c.args.who c.requires.known c.requires.ending c.requires.clearing)

pub clear_reader-requires-clause-object : goal.clear_reader-requires-clause-object
clear_reader-requires-clause-object g c = object_of_cleared c.args.p.now.me.0.view c.args.who c.requires.known c.requires.ending c.requires.clearing

pub clear_reader-requires-clause-ready : goal.clear_reader-requires-clause-ready
clear_reader-requires-clause-ready g c = ready_clear c.args.p.now.me.0.view c.args.who c.requires.known c.requires.ending c.requires.clearing

pub returns-clause-cleared : goal.returns-clause-cleared
returns-clause-cleared g c = did_unregister c.args.p.now.me.0.view c.args.who c.requires.known c.requires.ending c.requires.clearing c.clear_reader.ensures.told.0 _ c.clear_reader.ensures.told.1.told
