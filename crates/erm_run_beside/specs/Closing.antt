-- What is asked of sessions that worked, where their table is closed behind the last turns of a desk.
use Rattle.std.specs.Prelude.{◌≡◌, ℕ, Bool, false, List, Option}
use Rattle.erm_model.specs.declared.outcome.Phase.TheVariants.{Sealed}
use Rattle.erm_model.specs.RowTransaction.{Law}
use Rattle.erm_outside.specs.Disk.{Step}
use Rattle.erm_rule.specs.declared.view.Book.{Book}
use Rattle.erm_rule.specs.declared.view.Opening.{Opening}
use Rattle.erm_rule.specs.Openings.{start_of}
use Rattle.erm_desk.specs.Desk.{IsDesk}
use Rattle.erm_engine.specs.Closed.{HaveEnded}
use Rattle.erm_shared_session.specs.declared.session.TableSession.{TableSession}
use Rattle.erm_world.specs.World.{IsSession, phase_at}
use Rattle.erm_engine.specs.Ended.{world_of}

-- The table of these sessions was closed behind the last turns of a desk, which is still one, by its pass: all have ended in one world. Where the disk hasn't failed and no
-- session waits all of the log is flushed.
pub record ClosesDesk {L : Type 0} (law : Law) (o : Opening) (began : Option (List Step)) (first : ℕ) (ss : List (TableSession L)) (told : Option (List Step)) (faults : ℕ) (failed : Bool) : Type 0 where
  pub book : Book
  pub desk : IsDesk law (start_of o) began first (record { book = book; told = told; faults = faults; failed = failed })
  pub tail : ℕ
  pub ended : HaveEnded law o ss book tail
  pub flushed : failed ≡ false → ((seat : ℕ) → IsSession (world_of ended.core) seat → phase_at (world_of ended.core) seat ≡ Sealed → ⊥) → ended.core.shared.flushed ≡ ended.core.shared.tail
