use Rattle.std.proofs.Common.{◌≡◌, ℕ, ◌≤◌, Some, false, length, slice_get}
use Rattle.erm_model.specs.Member.{◌∈◌}
use Rattle.erm_explain.specs.Links.{Touches}
use Rattle.erm_explain.proofs.links.find_among.Given as goal

-- none of the own lines from the place on is touched
abbrev pub invariant-loop-place : goal.invariant-loop-place
invariant-loop-place l = record {
  none : l.same_key ≡ false → (k own other : ℕ) → l.place ≤ k → slice_get l.owns k ≡ Some own → other ∈ l.others → Touches l.script l.touch other own → ⊥;
  within : l.place ≤ length l.owns;
}

abbrev pub decreases-loop-place : goal.decreases-loop-place
decreases-loop-place l = l.place
