use Rattle.std.proofs.Common.{refl, arith}
use Rattle.erm_ends.proofs.Clears.{clear_cell, clear_clearing, clear_ending, cleared_next, clears_go_on, clears_start, did_clear_all}
use Rattle.erm_ends.proofs.clearing.clear_reads.Goals as goal
use Rattle.erm_ends.proofs.Took.{turns_all, turns_more}

pub loop-k-init : goal.loop-k-init
loop-k-init g c = (c.requires.fits, clears_start c.args.p.now.me.0.view c.args.who c.args.reads.now c.requires.known c.requires.may c.args.p.now.me.0.view refl, refl)

pub unregister-requires-clause-known : goal.unregister-requires-clause-known
unregister-requires-clause-known g c = c.loop-k.invariant.1.come.known

pub unregister-requires-clause-ending : goal.unregister-requires-clause-ending
unregister-requires-clause-ending g c = clear_ending c.args.p.now.me.0.view c.args.who c.args.reads.now c.requires.known c.requires.may c.loop-k.p.me.0.view c.loop-k.k c.loop-k-test.true c.loop-k.invariant.1

pub unregister-requires-clause-clearing : goal.unregister-requires-clause-clearing
unregister-requires-clause-clearing g c = clear_clearing c.args.p.now.me.0.view c.args.who c.args.reads.now c.requires.known c.requires.may c.loop-k.p.me.0.view c.loop-k.k c.loop-k-test.true c.loop-k.invariant.1

pub unregister-requires-clause-cell : goal.unregister-requires-clause-cell
unregister-requires-clause-cell g c = clear_cell c.args.p.now.me.0.view c.args.who c.args.reads.now c.requires.known c.requires.may c.loop-k.p.me.0.view c.loop-k.k c.loop-k-test.true c.loop-k.invariant.1

pub loop-k-preserved : goal.loop-k-preserved
loop-k-preserved g c = (
  c.unregister.ensures.fits,
  clears_go_on c.args.p.now.me.0.view c.args.who c.args.reads.now c.requires.known c.requires.may c.loop-k.p.me.0.view c.loop-k.k c.loop-k-test.true c.loop-k.invariant.1 c.unregister.new.p.me.0.view c.unregister.ensures.cleared,
  turns_more _ c.loop-k.k c.args.p.now.me.0 c.loop-k.p.me.0 c.unregister.new.p.me.0 c.loop-k.invariant.2
      (cleared_next c.args.p.now.me.0.view c.args.who c.args.reads.now c.requires.known c.requires.may c.loop-k.p.me.0.view c.loop-k.k c.loop-k-test.true c.loop-k.invariant.1 g.L.RowLaw.law c.loop-k.p.me.0 c.unregister.new.p.me.0 c.unregister.ensures.booked.0 c.unregister.ensures.booked.1),
)

pub returns-clause-cleared : goal.returns-clause-cleared
returns-clause-cleared g c =
    let left = c.loop-k-test.false in
    let most = c.loop-k.auto.k-end in
    did_clear_all c.args.p.now.me.0.view c.args.who c.args.reads.now c.requires.known c.requires.may c.loop-k.p.me.0.view c.loop-k.k (omega (arith, left, most)) c.loop-k.invariant.1

pub returns-clause-took : goal.returns-clause-took
returns-clause-took g c =
    let left = c.loop-k-test.false in
    let most = c.loop-k.auto.k-end in
    let count = c.requires.may.reads.count in
    turns_all _ c.loop-k.k _ c.args.p.now.me.0 c.loop-k.p.me.0 (omega (arith, left, most, count)) c.loop-k.invariant.2
