use Rattle.std.proofs.Common.{◌≡◌, ◌+◌, ◌<◌, Some, slice_get, ◌∙◌, subst, sym, refl, arith}
use Rattle.std.proofs.lemmas.Bool.{both_ways}
use Rattle.std.proofs.lemmas.Option.{slice_get_read}
use Rattle.erm_model.specs.History.{OverwritesReadOf}
use Rattle.erm_core_ssn.proofs.SomeNumbers.{some_numbers}
use Rattle.erm_slow.proofs.Scans.{stamp_at-Some, IsLeastSoFar, least_with, least_without, least_of_all, number_by}
use Rattle.erm_slow.proofs.+successor_stamp.Goals as goal
use Rattle.erm_slow.proofs.+successor_stamp.Goals.{then-u-t+then-overwrites_read_of, else-u-t, else-u-t-via-then-u-t+else-overwrites_read_of, else-u-t-via-else-u-t}

pub successor_stamp-requires : goal.successor_stamp-requires
successor_stamp-requires n c =
    let h = c.args.history.now in
    let t = c.index-history-place.result in
    let u = c.index-history-other.result in
    let at_t : slice_get h c.args.place ≡ Some t = slice_get_read h _ c.args.place t refl c.requires c.index-history-place.is in
    let at_u : slice_get h c.loop-other.other ≡ Some u = slice_get_read h _ c.loop-other.other u refl c.loop-other-test.true c.index-history-other.is in
    let first = stamp_at-Some h c.args.place t at_t in
    let second = stamp_at-Some h c.loop-other.other u at_u in
    (omega (arith, first, second, c.if-u-t.true, c.decreases), c.loop-other-test.true)

pub loop-other-preserved : goal.loop-other-preserved
loop-other-preserved n c = λ succ stamps.
    let h = c.args.history.now in
    let t = c.index-history-place.result in
    let i = c.loop-other.other in
    let u = c.index-history-other.result in
    let at : slice_get h i ≡ Some u = slice_get_read h _ i u refl c.loop-other-test.true c.index-history-other.is in
    elim c.if-u-t.branch [
      | then-u-t+then-overwrites_read_of w ↦
          let over : OverwritesReadOf u t = w.overwrites_read_of.ensures.0 w.if-overwrites_read_of.true in
          let is = number_by h succ stamps u w.successor_stamp.result (i, at) (w.successor_stamp.ensures u at) in
          subst (λ n. IsLeastSoFar h succ t (i + 1) n) (sym (w.least-is ∙ w.min-least.ensures)) (least_with h succ t i c.loop-other.least u w.successor_stamp.result (c.loop-other.invariant succ stamps) at w.if-u-t.true over is)
      | else-u-t w ↦
          let none : u.stamp < t.stamp → OverwritesReadOf u t → ⊥ =
          elim w.else-u-t.branch [
            | else-u-t-via-then-u-t+else-overwrites_read_of w' ↦ (λ _ over. both_ways w'.overwrites_read_of.result w'.if-overwrites_read_of.false (w'.overwrites_read_of.ensures.1 over))
            | else-u-t-via-else-u-t w' ↦ (λ low _. omega (arith, low, w'.if-u-t.false))
          ]
          in
          subst (λ n. IsLeastSoFar h succ t (i + 1) n) (sym w.least-is) (least_without h succ t i c.loop-other.least u (c.loop-other.invariant succ stamps) at none)
    ]

pub returns : goal.returns
returns n c = λ t at.
    let h = c.args.history.now in
    let succ = (some_numbers h).0 in
    let stamps = (some_numbers h).1 in
    let own = c.index-history-place.result in
    let at_own : slice_get h c.args.place ≡ Some own = slice_get_read h _ c.args.place own refl c.requires c.index-history-place.is in
    let one : own ≡ t = cc in
    let so_far = subst (λ x. IsLeastSoFar h succ x c.loop-other.other c.loop-other.least) one (c.loop-other.invariant succ stamps) in
    (succ, stamps, least_of_all h succ t c.loop-other.other c.loop-other.least c.loop-other-test.false so_far (stamps t (c.args.place, at)))
