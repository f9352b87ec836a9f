use Rattle.std.proofs.Common.{refl, arith}
use Rattle.erm_ring.proofs.Filling.{did_fill, fill_goes_on, fill_held, fill_ready, fill_starts, place_low}
use Rattle.erm_ring.proofs.block.fill.Goals as goal
use Rattle.erm_rule.proofs.Wents.{went_none, went_step}

pub loop-k-init : goal.loop-k-init
loop-k-init g c = (c.requires.fits, fill_starts c.args.p.now.me.0.view c.args.who c.args.at c.args.words.now c.requires.known c.requires.may c.args.p.now.me.0.view refl, went_none _ _ _ _)

pub overflow_add-at : goal.overflow_add-at
overflow_add-at g c = let low = place_low c.args.p.now.me.0.view c.args.who c.args.at c.args.words.now c.requires.known c.requires.may c.loop-k.k c.loop-k-test.true in omega (arith, low)

pub overflow_add-at-in-loop-k : goal.overflow_add-at-in-loop-k
overflow_add-at-in-loop-k g c = let low = place_low c.args.p.now.me.0.view c.args.who c.args.at c.args.words.now c.requires.known c.requires.may c.loop-k.k c.loop-k-test.true in omega (arith, low)

pub store_ring-requires-clause-held : goal.store_ring-requires-clause-held
store_ring-requires-clause-held g c = fill_held c.args.p.now.me.0.view c.args.who c.args.at c.args.words.now c.requires.known c.requires.may c.loop-k.p.me.0.view c.loop-k.k c.loop-k-test.true c.loop-k.invariant.1

pub store_ring-requires-clause-ready : goal.store_ring-requires-clause-ready
store_ring-requires-clause-ready g c = fill_ready c.args.p.now.me.0.view c.args.who c.args.at c.args.words.now c.requires.known c.requires.may c.loop-k.p.me.0.view c.loop-k.k c.loop-k-test.true c.loop-k.invariant.1

pub loop-k-preserved : goal.loop-k-preserved
loop-k-preserved g c = (
  c.store_ring.ensures.fits,
  fill_goes_on c.args.p.now.me.0.view c.args.who c.args.at c.args.words.now c.requires.known c.requires.may c.loop-k.p.me.0.view c.loop-k.k c.loop-k-test.true c.loop-k.invariant.1 c.store_ring.new.p.me.0.view
      (c.store_ring.ensures.told.0, c.store_ring.ensures.told.1.told),
  went_step _ _ _ _ _ _ _ _ c.loop-k.invariant.2 tt c.store_ring.ensures.booked.1,
)

pub returns-clause-filled : goal.returns-clause-filled
returns-clause-filled g c =
    let left = c.loop-k-test.false in
    let most = c.loop-k.auto.k-end in
    did_fill c.args.p.now.me.0.view c.args.who c.args.at c.args.words.now c.requires.known c.requires.may c.loop-k.p.me.0.view c.loop-k.k (omega (arith, left, most)) c.loop-k.invariant.1

pub returns-clause-fills : goal.returns-clause-fills
returns-clause-fills g c = c.loop-k.invariant.2
