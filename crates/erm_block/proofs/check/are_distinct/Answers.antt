use Rattle.std.proofs.Common.{[], refl, arith}
use Rattle.std.proofs.lemmas.Bool.{false≢true}
use Rattle.erm_block.proofs.Distinct.{AllPairs-more, not_AllPairs, AllPairs-all}
use Rattle.erm_block.proofs.check.are_distinct.Goals as goal

pub returns-then-has_oid : goal.returns-then-has_oid
returns-then-has_oid c =
    let found = c.if-has_oid.ensures in
    (λ e. absurd (false≢true e), λ apart. absurd (not_AllPairs c.args.entries.now c.loop-i.i (0, []) c.loop-i-test.true (found.0 refl) apart))

pub loop-i-preserved : goal.loop-i-preserved
loop-i-preserved c =
    let found = c.if-has_oid.ensures in
    AllPairs-more c.args.entries.now c.loop-i.i (0, []) c.loop-i-test.true c.loop-i.invariant (λ has. false≢true (found.1 has))

pub returns : goal.returns
returns c = (λ _. AllPairs-all c.args.entries.now c.loop-i.i (omega arith) c.loop-i.invariant, λ _. refl)
