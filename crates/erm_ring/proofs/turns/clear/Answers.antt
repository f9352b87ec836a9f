use Rattle.erm_ring.proofs.Clearing.{clear_goes_on, clear_held, clear_most, clear_ready, clear_starts, did_clear, flushed_loads, store_ready}
use Rattle.erm_ring.proofs.turns.clear.Goals as goal
use Rattle.erm_rule.proofs.Wents.{went_none, went_step}

pub load_flushed-from-requires-clause-ready : goal.load_flushed-from-requires-clause-ready
load_flushed-from-requires-clause-ready g c = flushed_loads c.args.p.now.me.0 c.args.to c.requires.may

pub loop-at-init : goal.loop-at-init
loop-at-init g c = (c.load_flushed-from.ensures.fits, clear_starts c.args.p.now.me.0 c.args.to c.requires.may g.L.RowLaw.law c.load_flushed-from.result c.load_flushed-from.new.p.me.0 c.load_flushed-from.ensures.booked, record { first = c.load_flushed-from.new.p.me.0; load = c.load_flushed-from.ensures.booked; clears = went_none _ _ _ _ })

pub clear_ring-requires-clause-fits : goal.clear_ring-requires-clause-fits
clear_ring-requires-clause-fits g c = c.loop-at.invariant.0

pub clear_ring-requires-clause-held : goal.clear_ring-requires-clause-held
clear_ring-requires-clause-held g c = clear_held c.args.p.now.me.0 c.args.to c.requires.may g.L.RowLaw.law c.load_flushed-from.result c.load_flushed-from.new.p.me.0 c.load_flushed-from.ensures.booked c.loop-at.at c.loop-at.p.me.0 c.loop-at.invariant.1

pub clear_ring-requires-clause-ready : goal.clear_ring-requires-clause-ready
clear_ring-requires-clause-ready g c =
    clear_ready c.args.p.now.me.0 c.args.to c.requires.may g.L.RowLaw.law c.load_flushed-from.result c.load_flushed-from.new.p.me.0 c.load_flushed-from.ensures.booked c.loop-at.at c.loop-at.p.me.0 c.loop-at.invariant.1 c.loop-at-test.true

pub loop-at-preserved : goal.loop-at-preserved
loop-at-preserved g c = (
  c.clear_ring.ensures.fits,
  clear_goes_on c.args.p.now.me.0 c.args.to c.requires.may g.L.RowLaw.law c.load_flushed-from.result c.load_flushed-from.new.p.me.0 c.load_flushed-from.ensures.booked c.loop-at.at c.loop-at.p.me.0 c.loop-at.invariant.1 c.loop-at-test.true
      c.clear_ring.ensures.booked.0 c.clear_ring.new.p.me.0 c.clear_ring.ensures.booked.1,
  record { first = c.loop-at.invariant.2.first; load = c.loop-at.invariant.2.load; clears = went_step _ _ _ _ _ _ _ _ c.loop-at.invariant.2.clears tt c.clear_ring.ensures.booked.1 },
)

pub store_flushed-requires-clause-fits : goal.store_flushed-requires-clause-fits
store_flushed-requires-clause-fits g c = c.loop-at.invariant.0

pub store_flushed-requires-clause-held : goal.store_flushed-requires-clause-held
store_flushed-requires-clause-held g c = clear_held c.args.p.now.me.0 c.args.to c.requires.may g.L.RowLaw.law c.load_flushed-from.result c.load_flushed-from.new.p.me.0 c.load_flushed-from.ensures.booked c.loop-at.at c.loop-at.p.me.0 c.loop-at.invariant.1

pub store_flushed-requires-clause-ready : goal.store_flushed-requires-clause-ready
store_flushed-requires-clause-ready g c = store_ready c.args.p.now.me.0 c.args.to c.requires.may g.L.RowLaw.law c.load_flushed-from.result c.load_flushed-from.new.p.me.0 c.load_flushed-from.ensures.booked c.loop-at.at c.loop-at.p.me.0 c.loop-at.invariant.1 c.loop-at-test.false (c.loop-at.auto.at-end (clear_most c.args.p.now.me.0 c.args.to c.requires.may g.L.RowLaw.law c.load_flushed-from.result c.load_flushed-from.new.p.me.0 c.load_flushed-from.ensures.booked))

pub returns-clause-cleared : goal.returns-clause-cleared
returns-clause-cleared g c = did_clear c.args.p.now.me.0 c.args.to c.requires.may g.L.RowLaw.law c.load_flushed-from.result c.load_flushed-from.new.p.me.0 c.load_flushed-from.ensures.booked c.loop-at.at c.loop-at.p.me.0 c.loop-at.invariant.1 c.loop-at-test.false (c.loop-at.auto.at-end (clear_most c.args.p.now.me.0 c.args.to c.requires.may g.L.RowLaw.law c.load_flushed-from.result c.load_flushed-from.new.p.me.0 c.load_flushed-from.ensures.booked)) c.store_flushed.ensures.booked.0 c.store_flushed.new.p.me.0 c.store_flushed.ensures.booked.1

pub returns-clause-took : goal.returns-clause-took
returns-clause-took g c = record { from = c.load_flushed-from.result; cleared = c.loop-at.p.me.0; clears = c.loop-at.invariant.2; word = c.store_flushed.ensures.booked.0; step = c.store_flushed.ensures.booked.1 }
