use Rattle.std.proofs.Common.{refl, arith}
use Rattle.erm_ends.proofs.Raises.{did_raise_all, raised_next, raise_cell, raise_committed, raise_decided, raise_raising, raise_stamp, raises_go_on, raises_start}
use Rattle.erm_ends.proofs.raising.raise_reads.Goals as goal
use Rattle.erm_ends.proofs.Took.{turns_all, turns_more}

pub loop-k-init : goal.loop-k-init
loop-k-init g c = (c.requires.fits, raises_start c.args.p.now.me.0.view c.args.who c.args.reads.now c.args.stamp c.requires.known c.requires.may c.args.p.now.me.0.view refl, refl)

pub raise-requires-clause-known : goal.raise-requires-clause-known
raise-requires-clause-known g c = c.loop-k.invariant.1.known

pub raise-requires-clause-decided : goal.raise-requires-clause-decided
raise-requires-clause-decided g c = raise_decided c.args.p.now.me.0.view c.args.who c.args.reads.now c.args.stamp c.requires.known c.requires.may c.loop-k.p.me.0.view c.loop-k.k c.loop-k-test.true c.loop-k.invariant.1

pub raise-requires-clause-committed : goal.raise-requires-clause-committed
raise-requires-clause-committed g c = raise_committed c.args.p.now.me.0.view c.args.who c.args.reads.now c.args.stamp c.requires.known c.requires.may c.loop-k.p.me.0.view c.loop-k.k c.loop-k-test.true c.loop-k.invariant.1

pub raise-requires-clause-raising : goal.raise-requires-clause-raising
raise-requires-clause-raising g c = raise_raising c.args.p.now.me.0.view c.args.who c.args.reads.now c.args.stamp c.requires.known c.requires.may c.loop-k.p.me.0.view c.loop-k.k c.loop-k-test.true c.loop-k.invariant.1

pub raise-requires-clause-cell : goal.raise-requires-clause-cell
raise-requires-clause-cell g c = raise_cell c.args.p.now.me.0.view c.args.who c.args.reads.now c.args.stamp c.requires.known c.requires.may c.loop-k.p.me.0.view c.loop-k.k c.loop-k-test.true c.loop-k.invariant.1

pub raise-requires-clause-stamp : goal.raise-requires-clause-stamp
raise-requires-clause-stamp g c = raise_stamp c.args.p.now.me.0.view c.args.who c.args.reads.now c.args.stamp c.requires.known c.requires.may c.loop-k.p.me.0.view c.loop-k.k c.loop-k-test.true c.loop-k.invariant.1

pub loop-k-preserved : goal.loop-k-preserved
loop-k-preserved g c = (
  c.raise.ensures.fits,
  raises_go_on c.args.p.now.me.0.view c.args.who c.args.reads.now c.args.stamp c.requires.known c.requires.may c.loop-k.p.me.0.view c.loop-k.k c.loop-k-test.true c.loop-k.invariant.1 c.raise.new.p.me.0.view c.raise.ensures.raised,
  turns_more _ c.loop-k.k c.args.p.now.me.0 c.loop-k.p.me.0 c.raise.new.p.me.0 c.loop-k.invariant.2
      (raised_next c.args.p.now.me.0.view c.args.who c.args.reads.now c.args.stamp c.requires.known c.requires.may c.loop-k.p.me.0.view c.loop-k.k c.loop-k-test.true c.loop-k.invariant.1 g.L.RowLaw.law c.loop-k.p.me.0 c.raise.new.p.me.0 c.raise.ensures.booked.0
      (raises_go_on c.args.p.now.me.0.view c.args.who c.args.reads.now c.args.stamp c.requires.known c.requires.may c.loop-k.p.me.0.view c.loop-k.k c.loop-k-test.true c.loop-k.invariant.1 c.raise.new.p.me.0.view c.raise.ensures.raised) c.raise.ensures.booked.1),
)

pub returns-clause-raised : goal.returns-clause-raised
returns-clause-raised g c =
    let left = c.loop-k-test.false in
    let most = c.loop-k.auto.k-end in
    did_raise_all c.args.p.now.me.0.view c.args.who c.args.reads.now c.args.stamp c.requires.known c.requires.may c.loop-k.p.me.0.view c.loop-k.k (omega (arith, left, most)) c.loop-k.invariant.1

pub returns-clause-took : goal.returns-clause-took
returns-clause-took g c =
    let left = c.loop-k-test.false in
    let most = c.loop-k.auto.k-end in
    let count = c.requires.may.reads.count in
    turns_all _ c.loop-k.k _ c.args.p.now.me.0 c.loop-k.p.me.0 (omega (arith, left, most, count)) c.loop-k.invariant.2
