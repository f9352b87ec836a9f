-- Steps of the flush seat leave the objects made, and the seat's cells.
use Rattle.std.proofs.Common.{◌≡◌, ℕ, Bool, Some, refl}
use Rattle.std.specs.Prelude.{if◌then◌else◌}
use Rattle.erm_machine.specs.declared.part.Flushing.{Flushing}
use Rattle.erm_machine.specs.declared.part.Flushing.TheVariants as flushing
use Rattle.erm_machine.specs.declared.part.Part.{Part}
use Rattle.erm_machine.specs.Flushing.{gathered_word, load_ring, clear_ring, store_flushed}
use Rattle.erm_machine.proofs.Guards.{when_then, either_way}
use Rattle.erm_core_cells.proofs.CellsLeaves.{Leaves, leaves_aside}

-- the flush seat's own fields change
flushing_leaves : (x : Part) (f : Flushing) (to : ℕ) → Leaves x x.task (record x { flushing = f; gathered_to = to })
flushing_leaves x f to = leaves_aside x _ refl refl refl refl

leaves_if : (x : Part) (b : Bool) (l r : Part) → Leaves x x.task l → Leaves x x.task r → Leaves x x.task (if b then l else r)
leaves_if x b l r f g = either_way (Leaves x x.task) b l r (λ _. f) (λ _. g)

leaves_refl : (x : Part) → Leaves x x.task x
leaves_refl x = leaves_aside x x refl refl refl refl

gathered_leaves : (tail from block next end : ℕ) (x : Part) → Leaves x x.task (gathered_word tail from block next end x)
gathered_leaves tail from block next end x = either_way (Leaves x x.task) _ _ _ (λ _. flushing_leaves x _ _) (λ _. flushing_leaves x _ _)

pub load_ring_leaves : (at found : ℕ) (x : Part) (f : Flushing) (y : Part) → load_ring at found x f ≡ Some y → Leaves x x.task y
load_ring_leaves at found x (flushing.Gathers tail from block next end) y e =
    when_then (Leaves x x.task) _ _ y e (λ _.
    search (leaves_if, gathered_leaves, leaves_refl))
load_ring_leaves at found x _ y e = absurd (cc)

pub clear_ring_leaves : (at : ℕ) (x : Part) (f : Flushing) (y : Part) → clear_ring at x f ≡ Some y → Leaves x x.task y
clear_ring_leaves at x (flushing.Gathers tail from block next end) y e = when_then (Leaves x x.task) _ _ y e (λ _. flushing_leaves x _ _)
clear_ring_leaves at x (flushing.Clears next to) y e = when_then (Leaves x x.task) _ _ y e (λ _. flushing_leaves x _ _)
clear_ring_leaves at x _ y e = absurd (cc)

pub store_flushed_leaves : (value : ℕ) (x : Part) (f : Flushing) (y : Part) → store_flushed value x f ≡ Some y → Leaves x x.task y
store_flushed_leaves value x (flushing.Clears next to) y e = when_then (Leaves x x.task) _ _ y e (λ _. flushing_leaves x _ _)
store_flushed_leaves value x _ y e = absurd (cc)
