use Rattle.erm_rule.specs.Books.{book}
use Rattle.erm_shared_session.proofs.Leaving.{may_join}
use Rattle.erm_shared_session.proofs.session.TableSession.join_into.Goals as goal

pub join-requires-clause-fits : goal.join-requires-clause-fits
join-requires-clause-fits g c = (c.requires.fits, c.requires.stands.fits)

pub join-requires-clause-taken : goal.join-requires-clause-taken
join-requires-clause-taken g c =
    let s = c.args.self in
    may_join g.L.RowLaw.law s.session.seat s.tail s.flushed (book s.pass) c.requires.stands.may
