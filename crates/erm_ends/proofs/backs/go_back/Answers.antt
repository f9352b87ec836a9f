use Rattle.std.proofs.Common.{◌≤◌, ◌<◌, ℕ, arith}
use Rattle.erm_ends.proofs.Back.{back_held, back_ready, did_nothing, did_store, took_nothing, took_store}
use Rattle.erm_ends.proofs.backs.go_back.Goals as goal

no_less : (succ stamp : ℕ) → stamp ≤ succ → succ < stamp → ⊥
no_less succ stamp most less = omega (arith, most, less)

pub store_back-requires-clause-held : goal.store_back-requires-clause-held
store_back-requires-clause-held g c = back_held c.args.p.now.me.0.view c.args.who c.args.stamp c.args.succ c.requires.may

pub store_back-requires-clause-ready : goal.store_back-requires-clause-ready
store_back-requires-clause-ready g c = back_ready c.args.p.now.me.0.view c.args.who c.args.stamp c.args.succ c.requires.may c.if-succ-stamp.true

pub returns-then-succ-stamp-clause-back : goal.returns-then-succ-stamp-clause-back
returns-then-succ-stamp-clause-back g c =
    did_store c.args.p.now.me.0.view c.args.who c.args.stamp c.args.succ c.requires.may c.if-succ-stamp.true c.store_back.ensures.told.0 c.store_back.new.p.me.0.view c.store_back.ensures.told.1.told

pub returns-then-succ-stamp-clause-took : goal.returns-then-succ-stamp-clause-took
returns-then-succ-stamp-clause-took g c =
    took_store c.args.p.now.me.0.view c.args.who c.args.stamp c.args.succ c.requires.may c.if-succ-stamp.true g.L.RowLaw.law c.args.p.now.me.0 c.store_back.ensures.booked.0 c.store_back.new.p.me.0 c.store_back.ensures.booked.1

pub returns-else-succ-stamp-clause-back : goal.returns-else-succ-stamp-clause-back
returns-else-succ-stamp-clause-back g c = did_nothing c.args.p.now.me.0.view c.args.who c.args.stamp c.args.succ c.requires.may c.requires.known (no_less c.args.succ c.args.stamp c.if-succ-stamp.false)

pub returns-else-succ-stamp-clause-took : goal.returns-else-succ-stamp-clause-took
returns-else-succ-stamp-clause-took g c = took_nothing c.args.p.now.me.0.view c.args.who c.args.stamp c.args.succ c.requires.may (no_less c.args.succ c.args.stamp c.if-succ-stamp.false) g.L.RowLaw.law c.args.p.now.me.0
