use Rattle.std.proofs.Common.{◌≡◌, ℕ, ◌+◌, ◌<◌, ◌++◌, length, map, slice_index_or, take}
use Rattle.std.specs.Vec.Iter.{into_iter_items}
use Rattle.erm_good_at_once.specs.CutReports.{answered_of}
use Rattle.erm_threads.specs.Merged.{own_answers}
use Rattle.erm_joined.specs.Merged.{counts_of}
use Rattle.erm_joined.proofs.merged.merge.Given as goal

-- of the lines so far those of sessions with answers are answered, and each part is what it gave, and the rest
abbrev pub invariant-loop-line : goal.invariant-loop-line
invariant-loop-line l =
    let lines = answered_of (counts_of (map (λ p. p.items) l.fn.parts.items)) (take l.line-index l.script) in
    (length l.rests.items ≡ length l.fn.parts.items) × (length l.answers.items ≡ length lines)
    × ((k : ℕ) (d e : _) → k < length l.fn.parts.items
    → (slice_index_or l.fn.parts.items k d).items ≡ own_answers (k + 1) lines l.answers.items ++ into_iter_items (slice_index_or l.rests.items k e))
