-- What scripts leave of the promise of safe stamps.
use Rattle.std.proofs.Common.{◌≤◌, List}
use Rattle.erm_model.specs.Committed.{Committed}
use Rattle.erm_model.specs.Database.{Database}
use Rattle.erm_model.specs.Member.{◌∈◌}
use Rattle.erm_outside.specs.Disk.{Step}
use Rattle.erm_ckpt.specs.Recovered.{State, base}
use Rattle.erm_report.specs.declared.answer.Answer.{Answer}
use Rattle.erm_disk_run.specs.Crashes.{Leaves}
use Rattle.erm_disk_run.specs.Found.{ReadsAs}
use Rattle.erm_disk_at_once.specs.Runs.{LeavesAll}
use Rattle.erm_shipped.specs.Shipped.{KeepsShipped}
use Rattle.erm_shipped.proofs.Kept.{kept}

module _ (commits : List Committed) (from : State) (low : (c : Committed) → c ∈ commits → from.at ≤ c.succ) (old new : List Step) (reads : ReadsAs from old) where
  pub leaves_shipped : (answers : List Answer) (m : Database) → Leaves commits from answers m old new → KeepsShipped old new
  leaves_shipped answers m leaves shipped best blocks recovers =
      kept commits from.at (base best).at low reads.blocks blocks (shipped reads.pair reads.blocks reads.recovers)
      (leaves.logged best blocks recovers) (leaves.alone best blocks recovers) (leaves.older reads.pair best reads.blocks blocks reads.recovers recovers)

  pub leaves_all_shipped : (m : Database) → LeavesAll commits from m old new → KeepsShipped old new
  leaves_all_shipped m leaves shipped best blocks recovers =
      kept commits from.at (base best).at low reads.blocks blocks (shipped reads.pair reads.blocks reads.recovers)
      (leaves.logged best blocks recovers) (leaves.alone best blocks recovers) (leaves.older reads.pair best reads.blocks blocks reads.recovers recovers)
