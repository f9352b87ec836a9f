use Rattle.std.proofs.Common.{refl, arith}
use Rattle.erm_ends.proofs.Commits.{did_install_all, installed_next, install_next_claim, installs_go_on, installs_start}
use Rattle.erm_ends.proofs.installing.install_claims.Goals as goal
use Rattle.erm_ends.proofs.Took.{turns_all, turns_more}

pub loop-k-init : goal.loop-k-init
loop-k-init g c = (c.requires.fits, installs_start c.args.p.now.me.0.view c.args.who c.args.claims.now c.args.stamp c.args.succ c.requires.known c.requires.may c.args.p.now.me.0.view refl, refl)

pub install_claim-requires-clause-known : goal.install_claim-requires-clause-known
install_claim-requires-clause-known g c = c.loop-k.invariant.1.known

pub install_claim-requires-clause-next : goal.install_claim-requires-clause-next
install_claim-requires-clause-next g c = install_next_claim c.args.p.now.me.0.view c.args.who c.args.claims.now c.args.stamp c.args.succ c.requires.known c.requires.may c.loop-k.p.me.0.view c.loop-k.k c.loop-k-test.true c.loop-k.invariant.1

pub loop-k-preserved : goal.loop-k-preserved
loop-k-preserved g c = (
  c.install_claim.ensures.fits,
  installs_go_on c.args.p.now.me.0.view c.args.who c.args.claims.now c.args.stamp c.args.succ c.requires.known c.requires.may c.loop-k.p.me.0.view c.loop-k.k c.loop-k-test.true c.loop-k.invariant.1 c.install_claim.new.p.me.0.view
      c.install_claim.ensures.installed,
  turns_more _ c.loop-k.k c.args.p.now.me.0 c.loop-k.p.me.0 c.install_claim.new.p.me.0 c.loop-k.invariant.2
      (installed_next c.args.p.now.me.0.view c.args.who c.args.claims.now c.args.stamp c.args.succ c.requires.known c.requires.may c.loop-k.p.me.0.view c.loop-k.k c.loop-k-test.true c.loop-k.invariant.1 g.L.RowLaw.law c.loop-k.p.me.0
      c.install_claim.new.p.me.0 c.install_claim.ensures.was),
)

pub returns-clause-installed : goal.returns-clause-installed
returns-clause-installed g c =
    let left = c.loop-k-test.false in
    let most = c.loop-k.auto.k-end in
    did_install_all c.args.p.now.me.0.view c.args.who c.args.claims.now c.args.stamp c.args.succ c.requires.known c.requires.may c.loop-k.p.me.0.view c.loop-k.k (omega (arith, left, most)) c.loop-k.invariant.1

pub returns-clause-took : goal.returns-clause-took
returns-clause-took g c =
    let left = c.loop-k-test.false in
    let most = c.loop-k.auto.k-end in
    let count = c.requires.may.claims.count in
    turns_all _ c.loop-k.k _ c.args.p.now.me.0 c.loop-k.p.me.0 (omega (arith, left, most, count)) c.loop-k.invariant.2
