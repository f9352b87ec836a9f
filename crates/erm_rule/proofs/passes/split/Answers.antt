use Rattle.std.proofs.Common.{arith}
use Rattle.erm_rule.proofs.Joins.{splits}
use Rattle.erm_rule.proofs.passes.split.Goals as goal

pub split_seat-requires : goal.split_seat-requires
split_seat-requires g c = (
  c.requires.fits.same,
  (let all = c.requires.fits.words in omega (arith, all)),
  splits g.L.RowLaw.law c.events_keep_sound.ensures c.law_is_kept.ensures c.blocks_stay_spelled.ensures c.args.t.now.words.shared.key c.args.p.now.id c.args.p.now.me.0 c.requires.gives.several c.requires.gives.giver c.requires.gives.given,
)
