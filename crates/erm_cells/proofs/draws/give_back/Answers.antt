use Rattle.erm_cells.proofs.Claimed.{held_is}
use Rattle.erm_cells.proofs.Rating.{room}
use Rattle.erm_cells.proofs.draws.give_back.Goals as goal

pub push-requires : goal.push-requires
push-requires g c = room c.args.p.now.me.0.view c.args.who _ c.args.spare.now c.args.cell c.requires.known (held_is c.args.p.now.me.0.view c.args.who c.requires.held) c.requires.released
