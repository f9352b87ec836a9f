use Rattle.std.proofs.Common.{inr, refl, ap, arith}
use Rattle.erm_layout.specs.declared.word.Word.TheVariants as word
use Rattle.erm_layout.specs.Spots.{word_of_spot}
use Rattle.erm_rule.proofs.Allowed.{allows_none, begin_numbered}
use Rattle.erm_rule.proofs.stepping.passes.Goals as goal

pub load-requires : goal.load-requires
load-requires g c = (
  c.requires.fits.same,
  (let low = c.index-number.ensures.below in let all = c.requires.fits.words in omega (arith, low, all)),
  allows_none g.L.RowLaw.law c.one_number.ensures c.numbers_below.ensures c.events_keep_sound.ensures c.law_is_kept.ensures c.blocks_stay_spelled.ensures c.args.t.now.words.shared.key _ c.args.p.now.id c.args.p.now.me c.args.who g.M.Deed.kind (word.Begin c.args.who) (λ n. n)
      c.requires.held c.requires.ready c.requires.lawful c.requires.known c.requires.told (begin_numbered c.args.who c.requires.seat) (inr (ap word_of_spot c.requires.none, λ n. refl)) c.index-number.result c.index-number.ensures.number _ c.requires.which.0 c.requires.none,
)
