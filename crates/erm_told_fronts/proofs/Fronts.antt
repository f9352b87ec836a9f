-- The commits below a stamp, as the operations that their sessions were told, run in the serial order.
use Rattle.std.proofs.Common.{◌≡◌, ℕ, List, sym, subst}
use Rattle.erm_model.specs.Committed.{Committed, RunsInOrder, rank_of, state_after}
use Rattle.erm_model.specs.Committed as committed
use Rattle.erm_model.specs.Database.{Database}
use Rattle.erm_model.specs.History.{History, below, rows_after}
use Rattle.erm_model.specs.SerialOrder.{IsSerialOrder}
use Rattle.erm_node.specs.Sound.{sound_law}
use Rattle.erm_node.specs.TreeMap.{map_of_rows}
use Rattle.erm_world.specs.Laws.{IsSerializable}
use Rattle.erm_world.specs.World.{View, history_of}
use Rattle.erm_maps.specs.Runs.{AreRuns, Told, told_commits}
use Rattle.erm_maps.proofs.Commits.{run_ends, told_below, told_order}
use Rattle.erm_maps.proofs.Lawful.{RunsBelow}
use Rattle.erm_maps.proofs.Standing.{run_below}

-- two orders of the same commits are one
abbrev pub OneOrder : Type 0
OneOrder = (commits one other : List Committed) → IsSerialOrder rank_of commits one → IsSerialOrder rank_of commits other → one ≡ other

module _ (v : View) (told : Told) (holds : IsSerializable sound_law v) (are_runs : AreRuns v told) (bound : ℕ) (rows : History) (runs : RunsBelow v bound rows) where
  abbrev own : List Committed
  own = told_commits told rows

  abbrev opened : Database
  opened = map_of_rows v.opening.rows

  -- in the order of the rows
  runs_in_rows : RunsInOrder own opened (state_after own opened)
  runs_in_rows =
      let front = run_below v told holds are_runs bound rows runs in
      subst (λ m. RunsInOrder own opened m) (run_ends own opened (map_of_rows (rows_after rows v.opening.rows)) front) (record { run = front })

  -- in any serial order of the same commits, from the same map
  pub front_runs : OneOrder → (commits : List Committed) → commits ≡ told_commits told (history_of v) → (opening : Database) → opening ≡ map_of_rows v.opening.rows
      → (order : List Committed) → IsSerialOrder rank_of (committed.below bound commits) order → RunsInOrder order opening (state_after order opening)
  front_runs one commits as_told opening same order serial =
      let serial_told : IsSerialOrder rank_of (committed.below bound (told_commits told (history_of v))) order =
      subst (λ cs. IsSerialOrder rank_of (committed.below bound cs) order) as_told serial
      in
      let own_serial : IsSerialOrder rank_of (committed.below bound (told_commits told (history_of v))) own =
      subst (λ cs. IsSerialOrder rank_of cs own) (sym (told_below told bound (history_of v))) (told_order told (below bound (history_of v)) rows runs.serial)
      in
      let orders : order ≡ own = one (committed.below bound (told_commits told (history_of v))) order own serial_told own_serial in
      subst (λ m. RunsInOrder order m (state_after order m)) (sym same)
      (subst (λ cs. RunsInOrder cs opened (state_after cs opened)) (sym orders) runs_in_rows)
