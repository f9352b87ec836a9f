use Rattle.std.proofs.Common.{refl, arith}
use borrow.Author.Count.{below_more}
use Rattle.std.proofs.lemmas.Bool.{both_ways}
use Rattle.erm_slow.specs.Slow.{IsNewStamp, IsOpenAt}
use Rattle.erm_slow.proofs.Certificates.{certified_from, new_of_certified, open_of_certified}
use Rattle.erm_slow.proofs.is_certified.Goals as goal

pub returns-then-not-is_certified_at : goal.returns-then-not-is_certified_at
returns-then-not-is_certified_at c =
    let h = c.args.history.now in
    let place = c.loop-place.place in (
      (λ never. absurd (both_ways _ refl never)),
      λ certified.
          absurd (both_ways c.is_certified_at.result c.if-not-is_certified_at.true (c.is_certified_at.ensures.1 (new_of_certified h place certified, open_of_certified h place certified))),
    )

pub loop-place-preserved : goal.loop-place-preserved
loop-place-preserved c =
    let h = c.args.history.now in
    below_more (λ k. IsNewStamp h k × IsOpenAt h k) c.loop-place.place c.loop-place.invariant (c.is_certified_at.ensures.0 c.if-not-is_certified_at.false)

pub returns : goal.returns
returns c =
    ((λ _. certified_from c.args.history.now (λ k low. c.loop-place.invariant k (omega (arith, low, c.loop-place-test.false)))), λ _. refl)
