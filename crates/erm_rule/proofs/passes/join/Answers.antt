use Rattle.std.proofs.Common.{arith}
use Rattle.erm_rule.proofs.Joins.{joins}
use Rattle.erm_rule.proofs.passes.join.Goals as goal

pub join_seat-requires : goal.join_seat-requires
join_seat-requires g c = (
  c.requires.fits.0.same,
  c.requires.fits.1.same,
  c.requires.fits.1.none,
  (let all = c.requires.fits.0.words in omega (arith, all)),
  joins g.L.RowLaw.law c.events_keep_sound.ensures c.law_is_kept.ensures c.blocks_stay_spelled.ensures c.args.t.now.words.shared.key c.args.p.now.id c.args.p.now.me.0 c.args.other.id c.args.other.me.0 c.requires.takes.some_held c.requires.taken.some_held c.requires.takes.taken c.requires.taken.taken,
)
