use Rattle.erm_rule.specs.Books.{book}
use Rattle.erm_engine.proofs.Ended.{have_closed}
use Rattle.erm_engine.proofs.closing.close_joined.Goals as goal

pub returns : goal.returns
returns g c ss joined =
    have_closed g.L.RowLaw.law c.args.table.words.shared.key c.args.table ss (book c.args.pass) c.close.result c.requires.behind c.requires.run_high c.requires.gathers c.requires.unpinned joined c.close.ensures.ends
