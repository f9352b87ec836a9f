use Rattle.std.proofs.Common.{◌≡◌, ℕ, ◌-◌, Some, subst, arith, slice_get}
use Rattle.erm_model.specs.Member.{◌∈◌}
use Rattle.erm_explain.specs.Links.{Touches}
use Rattle.erm_explain.proofs.Found.{at_is, from_here}
use Rattle.erm_explain.proofs.links.find_among.Goals as goal

pub loop-place-preserved : goal.loop-place-preserved
loop-place-preserved c = record {
  none = λ any k own other low at within touches.
      from_here (λ (j : ℕ). (o p : ℕ) → slice_get c.args.owns.now j ≡ Some o → p ∈ c.args.others.now → Touches c.args.script.now c.args.touch p o → ⊥) c.loop-place.place c.loop-place-test.true
      (λ o p there inside both.
      c.in_default.ensures.none any p inside (subst (λ (x : ℕ). Touches c.args.script.now c.args.touch p x) (at_is c.args.owns.now (c.loop-place.place - 1) o there) both))
      (λ j high o p there inside both. c.loop-place.invariant.none any j o p high there inside both)
      k low own other at within touches;
  within = omega (arith, c.loop-place.invariant.within);
}

pub returns-clause-none : goal.returns-clause-none
returns-clause-none c any link links =
    c.loop-place.invariant.none any links.own.0 link.own link.other (omega (arith, c.loop-place-test.false)) links.own.1 links.other links.touches
