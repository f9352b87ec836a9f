-- A session in the middle of a transaction that is a run so far, as a tree call asks for it.
use Rattle.std.proofs.Common.{◌≡◌, inr, refl, ℕ, List}
use Rattle.erm_model.specs.declared.outcome.Phase.TheVariants.{Active}
use Rattle.erm_model.specs.RowTransaction.{Law, SameLaw}
use Rattle.erm_model.specs.Run.{Step}
use Rattle.erm_node.specs.Sound.{sound_law}
use Rattle.erm_tree.specs.Calls.{IsReady}
use Rattle.erm_world.specs.Face.{world_face}
use Rattle.erm_world.specs.Laws.{IsPossibleIn}
use Rattle.erm_world.specs.Snapshots.{snapshot_not_active}
use Rattle.erm_world.specs.World.{IsCurrent, Stand, View, phase_of, work_at, work_of}
use Rattle.erm_world.specs.World as world
use Rattle.erm_maps.specs.Runs.{IsRunOf, kept_at}
use Rattle.erm_maps.proofs.Called.{lawful_before}

-- the work of an active session is its current one
current_in : (stand : Stand) → phase_of stand ≡ Active → IsCurrent stand (work_of stand)
current_in world.idle active = cc
current_in (world.active w) active = refl
current_in (world.sealed w stamp) active = cc
current_in (world.snapshot s) active = absurd (snapshot_not_active s active)

module _ {S : Type 0} (law : Law) (view : S → View) (seat : S → ℕ) (stands : S → Type 0) (one : S → S → Type 0)
    (possible : (s : S) → stands s → IsPossibleIn law (view s)) (same : SameLaw law sound_law) where
  pub ready_runs : (s : S) (before : List Step) → (world_face law view seat stands one).active s → IsRunOf (kept_at (view s) (seat s)) before
      → IsReady (world_face law view seat stands one) s
  ready_runs s before active run = record {
    active = active;
    possible = possible s active.0 (seat s) (work_at (view s) (seat s)) active.1 (inr (current_in ((view s).session (seat s)).stand active.2));
    lawful = lawful_before law view seat stands one same s before run;
  }
