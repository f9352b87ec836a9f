use Rattle.std.proofs.Common.{◌≡◌, ◌++◌, length, map}
use Rattle.std.specs.Vec.Iter.{into_iter_items, into_iter_len}
use Rattle.erm_joined.proofs.merged.cursors.Given as goal

-- a part that was yielded is among them, from its first answer on
abbrev pub invariant-loop-part : goal.invariant-loop-part
invariant-loop-part l = (l.yielded ++ into_iter_items l.part-iterator ≡ into_iter_items l.initial.part-iterator)
    × (map into_iter_items l.rests.items ≡ map (λ p. p.items) l.yielded)
    × (into_iter_len l.part-iterator ≡ length (into_iter_items l.part-iterator))
