use Rattle.std.proofs.Common.{◌≡◌, ◌+◌, ◌<◌, Some, slice_get, ◌∙◌, subst, sym, refl, arith}
use Rattle.std.proofs.lemmas.Bool.{both_ways}
use Rattle.std.proofs.lemmas.Option.{slice_get_read}
use Rattle.erm_slow.proofs.Scans.{Follows, IsGreatestSoFar, greatest_with, greatest_without, greatest_of_all}
use Rattle.erm_slow.proofs.predecessor_stamp.Goals as goal
use Rattle.erm_slow.proofs.predecessor_stamp.Goals.{then-u-t+then-follows, else-u-t, else-u-t-via-then-u-t+else-follows, else-u-t-via-else-u-t}

pub loop-u-preserved : goal.loop-u-preserved
loop-u-preserved c =
    let h = c.args.history.now in
    let t = c.args.t.now in
    let i = c.loop-u.u-index in
    let u = c.u-item.result in
    let at : slice_get h i ≡ Some u = slice_get_read h _ i u refl c.loop-u-test.true c.u-item.is in
    elim c.if-u-t.branch [
      | then-u-t+then-follows w ↦ subst (λ n. IsGreatestSoFar h t (i + 1) n) (sym (w.greatest-is ∙ w.max-greatest.ensures)) (greatest_with h t i c.loop-u.greatest u c.loop-u.invariant at w.if-u-t.true (w.follows.ensures.0 w.if-follows.true))
      | else-u-t w ↦
          let none : u.stamp < t.stamp → Follows t u → ⊥ =
          elim w.else-u-t.branch [
            | else-u-t-via-then-u-t+else-follows w' ↦ (λ _ follows. both_ways w'.follows.result w'.if-follows.false (w'.follows.ensures.1 follows))
            | else-u-t-via-else-u-t w' ↦ (λ low _. omega (arith, low, w'.if-u-t.false))
          ]
          in
          subst (λ n. IsGreatestSoFar h t (i + 1) n) (sym w.greatest-is) (greatest_without h t i c.loop-u.greatest u c.loop-u.invariant at none)
    ]

pub returns : goal.returns
returns c =
    greatest_of_all c.args.history.now c.args.t.now c.loop-u.u-index c.loop-u.greatest c.loop-u-test.false c.loop-u.invariant
