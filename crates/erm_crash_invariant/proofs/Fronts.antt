-- What images recover to that show a front of a log's blocks.
use Rattle.std.proofs.Common.{◌≡◌, ◌+◌, ◌++◌, ℕ, List, [], ◌∷◌, refl, sym, subst}
use Rattle.erm_model.specs.Database.{Database}
use Rattle.erm_model.specs.Rows.{Rows}
use Rattle.erm_block.specs.declared.block.Block.{Block}
use Rattle.erm_block.specs.LogList.{rows_after_block}
use Rattle.erm_ckpt.specs.Recovered.{State, state_behind}
use Rattle.erm_ckpt.specs.States.{RecoversPast}
use Rattle.erm_checkpoint.specs.Taken.{state_at}
use Rattle.erm_crash.specs.Kept.{KeepsBlocks}
use Rattle.erm_node.specs.Sound.{sound_law}
use Rattle.erm_node.specs.TreeMap.{map_of_rows}
use Rattle.erm_outside.specs.Disk.{Image, Step}
use Rattle.erm_world.specs.Log.{Log, rows_behind}
use Rattle.erm_crash_invariant.specs.Crashes.{KeepsInvariant, RecoversWith}

-- the rows behind blocks
rows_are : (state : State) (blocks : List Block) → (state_behind state blocks).rows ≡ rows_behind state.rows blocks
rows_are state [] = refl
rows_are state (b ∷ bs) = rows_are (record { at = state.at + b.size; run = b.run; rows = rows_after_block b state.rows }) bs

module _ (Invariant : Database → Type 0) (log : Log)
    (holds : (front rest : List Block) → log.gathered ≡ front ++ rest → Invariant (map_of_rows (rows_behind log.opened.rows front))) where
  recovers : (place : ℕ) (image : Image) → RecoversPast sound_law.meets (state_at log []) log.gathered place image → RecoversWith Invariant image
  recovers place image past = record {
    found = state_at log past.front;
    pair = past.pair;
    there = past.there;
    holds =
        subst (λ (rows : Rows). Invariant (map_of_rows rows)) (sym (rows_are (state_at log []) past.front)) (holds past.front past.rest past.split);
  }

  pub keeps : (place : ℕ) (old new : List Step) → KeepsBlocks sound_law.meets (state_at log []) log.gathered place old new → KeepsInvariant Invariant old new
  keeps place old new each = (each.0, λ now moment image is tears. recovers place image (each.1 now moment image is tears).past)
