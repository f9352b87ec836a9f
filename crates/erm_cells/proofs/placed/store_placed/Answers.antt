use Rattle.erm_cells.proofs.Claimed.{held_is}
use Rattle.erm_cells.proofs.Placing.{known_small}
use Rattle.erm_cells.proofs.placed.store_placed.Goals as goal

pub step_as-requires-clause-numbered : goal.step_as-requires-clause-numbered
step_as-requires-clause-numbered g c = (known_small c.args.p.now.me.0.view c.args.who _ (held_is c.args.p.now.me.0.view c.args.who c.requires.held) c.requires.known c.args.cell c.requires.owned, c.requires.word)
