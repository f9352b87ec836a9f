use Rattle.erm_rule.proofs.Telling.{is_held}
use Rattle.erm_cells.proofs.Heads.{has}
use Rattle.erm_cells.proofs.Rating.{object, ready_rate, did_rate}
use Rattle.erm_cells.proofs.draws.rate.Goals as goal

pub load_rated-requires-clause-held : goal.load_rated-requires-clause-held
load_rated-requires-clause-held g c = is_held c.args.p.now.me.0.view c.args.who _ (has c.args.p.now.me.0.view c.args.who c.requires.active)

pub load_rated-requires-clause-object : goal.load_rated-requires-clause-object
load_rated-requires-clause-object g c = object c.args.p.now.me.0.view c.args.who c.requires.active c.requires.known c.requires.drawn

pub load_rated-requires-clause-ready : goal.load_rated-requires-clause-ready
load_rated-requires-clause-ready g c = ready_rate c.args.p.now.me.0.view c.args.who c.requires.active c.requires.known c.requires.drawn

pub returns-clause-rated : goal.returns-clause-rated
returns-clause-rated g c = did_rate c.args.p.now.me.0.view c.args.who c.requires.active c.requires.known c.requires.drawn c.load_rated.result _ c.load_rated.ensures.told.told
