use Rattle.std.proofs.Common.{◌≡◌, ℕ, ◌<◌, Some, false, slice_get}
use Rattle.erm_explain.specs.Links.{Touches}
use Rattle.erm_explain.proofs.links.find_other.Given as goal

-- none so far touches it
abbrev pub invariant-loop-other : goal.invariant-loop-other
invariant-loop-other l = l.same_key ≡ false → (k other : ℕ) → k < l.other-index → slice_get l.others k ≡ Some other → Touches l.script l.touch other l.own → ⊥
