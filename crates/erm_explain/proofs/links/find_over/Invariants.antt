use Rattle.std.proofs.Common.{◌≡◌, ℕ, ◌≤◌, Some, length, slice_get}
use Rattle.erm_explain.specs.declared.told.Told.{Told}
use Rattle.erm_explain.specs.Links.{Apart, IsSought, touch_of}
use Rattle.erm_explain.proofs.links.find_over.Given as goal

-- none from the place on is found
abbrev pub invariant-loop-place : goal.invariant-loop-place
invariant-loop-place l = record {
  none : (k : ℕ) (t : Told) → l.place ≤ k → slice_get l.over k ≡ Some t → IsSought l.sought t → Apart l.script (touch_of l.sought) t.lines.items l.owns;
  within : l.place ≤ length l.over;
}

abbrev pub decreases-loop-place : goal.decreases-loop-place
decreases-loop-place l = l.place
