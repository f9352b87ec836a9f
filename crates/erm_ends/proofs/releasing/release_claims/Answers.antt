use Rattle.std.proofs.Common.{refl, arith}
use Rattle.erm_ends.proofs.Releases.{did_release_all, freed_next, release_next, release_own, releases_go_on, releases_start}
use Rattle.erm_ends.proofs.releasing.release_claims.Goals as goal
use Rattle.erm_ends.proofs.Took.{turns_all, turns_more}

pub loop-k-init : goal.loop-k-init
loop-k-init g c = (c.requires.fits, releases_start c.args.p.now.me.0.view c.args.who c.args.claims.now c.requires.known c.requires.may c.args.p.now.me.0.view c.args.spare.now refl c.requires.spare, refl)

pub release_claim-requires-clause-known : goal.release_claim-requires-clause-known
release_claim-requires-clause-known g c = c.loop-k.invariant.1.come.known

pub release_claim-requires-clause-next : goal.release_claim-requires-clause-next
release_claim-requires-clause-next g c =
    release_next c.args.p.now.me.0.view c.args.who c.args.claims.now c.requires.known c.requires.may c.loop-k.p.me.0.view c.loop-k.k c.loop-k.spare c.loop-k-test.true c.loop-k.invariant.1

pub release_claim-requires-clause-own : goal.release_claim-requires-clause-own
release_claim-requires-clause-own g c =
    release_own c.args.p.now.me.0.view c.args.who c.args.claims.now c.requires.known c.requires.may c.loop-k.p.me.0.view c.loop-k.k c.loop-k.spare c.loop-k-test.true c.loop-k.invariant.1

pub release_claim-requires-clause-spare : goal.release_claim-requires-clause-spare
release_claim-requires-clause-spare g c = c.loop-k.invariant.1.spare_is

pub loop-k-preserved : goal.loop-k-preserved
loop-k-preserved g c = (
  c.release_claim.ensures.fits,
  releases_go_on c.args.p.now.me.0.view c.args.who c.args.claims.now c.requires.known c.requires.may c.loop-k.p.me.0.view c.loop-k.k c.loop-k.spare c.loop-k-test.true c.loop-k.invariant.1 c.release_claim.new.p.me.0.view
      c.release_claim.new.spare c.release_claim.ensures.released c.release_claim.ensures.spare,
  turns_more _ c.loop-k.k c.args.p.now.me.0 c.loop-k.p.me.0 c.release_claim.new.p.me.0 c.loop-k.invariant.2
      (freed_next c.args.p.now.me.0.view c.args.who c.args.claims.now c.requires.known c.requires.may c.loop-k.p.me.0.view c.loop-k.k c.loop-k.spare c.loop-k-test.true c.loop-k.invariant.1 g.L.RowLaw.law c.loop-k.p.me.0 c.release_claim.new.p.me.0
      c.release_claim.ensures.freed),
)

pub returns-clause-released : goal.returns-clause-released
returns-clause-released g c =
    let left = c.loop-k-test.false in
    let most = c.loop-k.auto.k-end in
    did_release_all c.args.p.now.me.0.view c.args.who c.args.claims.now c.requires.known c.requires.may c.loop-k.p.me.0.view c.loop-k.k c.loop-k.spare (omega (arith, left, most)) c.loop-k.invariant.1

pub returns-clause-spare : goal.returns-clause-spare
returns-clause-spare g c = c.loop-k.invariant.1.spare_is

pub returns-clause-took : goal.returns-clause-took
returns-clause-took g c =
    let left = c.loop-k-test.false in
    let most = c.loop-k.auto.k-end in
    let count = c.requires.may.claims.count in
    turns_all _ c.loop-k.k _ c.args.p.now.me.0 c.loop-k.p.me.0 (omega (arith, left, most, count)) c.loop-k.invariant.2
