use Rattle.erm_rule.specs.Books.{book}
use Rattle.erm_rule.specs.Views.{view}
use Rattle.erm_engine.proofs.Ended.{ended_before}
use Rattle.erm_engine.proofs.Taken.{gathers_stay, unpinned_stay}
use Rattle.erm_engine.proofs.closing.close.Goals as goal

pub close_joined-requires-clause-gathers : goal.close_joined-requires-clause-gathers
close_joined-requires-clause-gathers g c = gathers_stay (view c.args.flush) (view c.join_all.new.flush) c.join_all.ensures.taken.parts c.requires.gathers

pub close_joined-requires-clause-unpinned : goal.close_joined-requires-clause-unpinned
close_joined-requires-clause-unpinned g c = unpinned_stay (view c.args.flush) (view c.join_all.new.flush) c.join_all.ensures.taken.parts c.requires.gathers c.requires.unpinned

pub returns : goal.returns
returns g c =
    let taken = c.join_all.ensures.taken in
    ended_before g.L.RowLaw.law c.args.table.words.shared.key c.args.sessions.items (book c.args.flush) (book c.join_all.new.flush) c.close_joined.result taken.goes
    (taken.flushed c.requires.gathers) (c.close_joined.ensures c.args.sessions.items c.join_all.ensures.joined).ended
