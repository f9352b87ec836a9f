use Rattle.erm_rule.proofs.Telling.{is_held}
use Rattle.erm_readers.proofs.Ending.{did_raise, has_decided, object_of_raised, ready_raise}
use Rattle.erm_readers.proofs.ends.raise.Goals as goal

pub raise_reader-requires-clause-held : goal.raise_reader-requires-clause-held
raise_reader-requires-clause-held g c = is_held c.args.p.now.me.0.view c.args.who _ (has_decided c.args.p.now.me.0.view c.args.who c.requires.known c.requires.decided c.requires.committed)

pub raise_reader-requires-clause-object : goal.raise_reader-requires-clause-object
raise_reader-requires-clause-object g c = object_of_raised c.args.p.now.me.0.view c.args.who c.requires.known c.requires.decided c.requires.committed c.requires.raising c.args.stamp c.requires.stamp

pub raise_reader-requires-clause-ready : goal.raise_reader-requires-clause-ready
raise_reader-requires-clause-ready g c = ready_raise c.args.p.now.me.0.view c.args.who c.requires.known c.requires.decided c.requires.committed c.requires.raising c.args.stamp c.requires.stamp

pub returns-clause-raised : goal.returns-clause-raised
returns-clause-raised g c = did_raise c.args.p.now.me.0.view c.args.who c.requires.known c.requires.decided c.requires.committed c.requires.raising c.args.stamp c.requires.stamp c.raise_reader.ensures.told.0 _ c.raise_reader.ensures.told.1.told
