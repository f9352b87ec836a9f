use Rattle.std.proofs.Common.{inl, subst, arith}
use Rattle.erm_rule.specs.declared.change.Change.{Change}
use Rattle.erm_rule.specs.declared.change.Change.TheVariants as change
use Rattle.erm_rule.specs.Changes.{changed}
use Rattle.erm_rule.specs.Steps.{Agrees}
use Rattle.erm_rule.proofs.Allowed.{allows_finding}
use Rattle.erm_rule.proofs.stepping.step_as.Goals as goal

pub load-requires : goal.load-requires
load-requires g c = (
  c.requires.fits.same,
  (let low = c.index-number.ensures.below in let all = c.requires.fits.words in omega (arith, low, all)),
  allows_finding g.L.RowLaw.law c.one_number.ensures c.numbers_below.ensures c.events_keep_sound.ensures c.law_is_kept.ensures c.blocks_stay_spelled.ensures c.args.t.now.words.shared.key _ c.args.p.now.id c.args.p.now.me c.args.who g.M.Deed.kind c.args.word (changed change.Keep)
      c.requires.held c.requires.ready c.requires.lawful c.requires.known c.requires.told c.requires.numbered (inl (c.requires.met, subst (λ (h : Change). Agrees c.args.p.now.me.0.view c.args.who g.M.Deed.kind (changed h)) c.in-Keep.is c.requires.agrees)) c.index-number.result c.index-number.ensures.number _ c.requires.seat c.requires.met,
)

pub swap-requires : goal.swap-requires
swap-requires g c = (
  c.requires.fits.same,
  (let low = c.index-number.ensures.below in let all = c.requires.fits.words in omega (arith, low, all)),
  allows_finding g.L.RowLaw.law c.one_number.ensures c.numbers_below.ensures c.events_keep_sound.ensures c.law_is_kept.ensures c.blocks_stay_spelled.ensures c.args.t.now.words.shared.key _ c.args.p.now.id c.args.p.now.me c.args.who g.M.Deed.kind c.args.word (changed (change.Set c.in-Set.new))
      c.requires.held c.requires.ready c.requires.lawful c.requires.known c.requires.told c.requires.numbered (inl (c.requires.met, subst (λ (h : Change). Agrees c.args.p.now.me.0.view c.args.who g.M.Deed.kind (changed h)) c.in-Set.is c.requires.agrees)) c.index-number.result c.index-number.ensures.number _ c.requires.seat c.requires.met,
)

pub fetch_add-requires : goal.fetch_add-requires
fetch_add-requires g c = (
  c.requires.fits.same,
  (let low = c.index-number.ensures.below in let all = c.requires.fits.words in omega (arith, low, all)),
  allows_finding g.L.RowLaw.law c.one_number.ensures c.numbers_below.ensures c.events_keep_sound.ensures c.law_is_kept.ensures c.blocks_stay_spelled.ensures c.args.t.now.words.shared.key _ c.args.p.now.id c.args.p.now.me c.args.who g.M.Deed.kind c.args.word (changed (change.Add c.in-Add.more))
      c.requires.held c.requires.ready c.requires.lawful c.requires.known c.requires.told c.requires.numbered (inl (c.requires.met, subst (λ (h : Change). Agrees c.args.p.now.me.0.view c.args.who g.M.Deed.kind (changed h)) c.in-Add.is c.requires.agrees)) c.index-number.result c.index-number.ensures.number _ c.requires.seat c.requires.met,
)

pub compare_exchange-requires : goal.compare_exchange-requires
compare_exchange-requires g c = (
  c.requires.fits.same,
  (let low = c.index-number.ensures.below in let all = c.requires.fits.words in omega (arith, low, all)),
  allows_finding g.L.RowLaw.law c.one_number.ensures c.numbers_below.ensures c.events_keep_sound.ensures c.law_is_kept.ensures c.blocks_stay_spelled.ensures c.args.t.now.words.shared.key _ c.args.p.now.id c.args.p.now.me c.args.who g.M.Deed.kind c.args.word (changed (change.Exchange c.in-Exchange.old c.in-Exchange.new))
      c.requires.held c.requires.ready c.requires.lawful c.requires.known c.requires.told c.requires.numbered (inl (c.requires.met, subst (λ (h : Change). Agrees c.args.p.now.me.0.view c.args.who g.M.Deed.kind (changed h)) c.in-Exchange.is c.requires.agrees)) c.index-number.result c.index-number.ensures.number _ c.requires.seat c.requires.met,
)

pub fetch_or-requires : goal.fetch_or-requires
fetch_or-requires g c = (
  c.requires.fits.same,
  (let low = c.index-number.ensures.below in let all = c.requires.fits.words in omega (arith, low, all)),
  allows_finding g.L.RowLaw.law c.one_number.ensures c.numbers_below.ensures c.events_keep_sound.ensures c.law_is_kept.ensures c.blocks_stay_spelled.ensures c.args.t.now.words.shared.key _ c.args.p.now.id c.args.p.now.me c.args.who g.M.Deed.kind c.args.word (changed (change.Or c.in-Or.bits))
      c.requires.held c.requires.ready c.requires.lawful c.requires.known c.requires.told c.requires.numbered (inl (c.requires.met, subst (λ (h : Change). Agrees c.args.p.now.me.0.view c.args.who g.M.Deed.kind (changed h)) c.in-Or.is c.requires.agrees)) c.index-number.result c.index-number.ensures.number _ c.requires.seat c.requires.met,
)

pub fetch_and-requires : goal.fetch_and-requires
fetch_and-requires g c = (
  c.requires.fits.same,
  (let low = c.index-number.ensures.below in let all = c.requires.fits.words in omega (arith, low, all)),
  allows_finding g.L.RowLaw.law c.one_number.ensures c.numbers_below.ensures c.events_keep_sound.ensures c.law_is_kept.ensures c.blocks_stay_spelled.ensures c.args.t.now.words.shared.key _ c.args.p.now.id c.args.p.now.me c.args.who g.M.Deed.kind c.args.word (changed (change.And c.in-And.bits))
      c.requires.held c.requires.ready c.requires.lawful c.requires.known c.requires.told c.requires.numbered (inl (c.requires.met, subst (λ (h : Change). Agrees c.args.p.now.me.0.view c.args.who g.M.Deed.kind (changed h)) c.in-And.is c.requires.agrees)) c.index-number.result c.index-number.ensures.number _ c.requires.seat c.requires.met,
)

pub fetch_max-requires : goal.fetch_max-requires
fetch_max-requires g c = (
  c.requires.fits.same,
  (let low = c.index-number.ensures.below in let all = c.requires.fits.words in omega (arith, low, all)),
  allows_finding g.L.RowLaw.law c.one_number.ensures c.numbers_below.ensures c.events_keep_sound.ensures c.law_is_kept.ensures c.blocks_stay_spelled.ensures c.args.t.now.words.shared.key _ c.args.p.now.id c.args.p.now.me c.args.who g.M.Deed.kind c.args.word (changed (change.Raise c.in-Raise.least))
      c.requires.held c.requires.ready c.requires.lawful c.requires.known c.requires.told c.requires.numbered (inl (c.requires.met, subst (λ (h : Change). Agrees c.args.p.now.me.0.view c.args.who g.M.Deed.kind (changed h)) c.in-Raise.is c.requires.agrees)) c.index-number.result c.index-number.ensures.number _ c.requires.seat c.requires.met,
)
