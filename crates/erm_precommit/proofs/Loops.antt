-- Settle goes on from version to version, and from reader to reader.
use Rattle.std.proofs.Common.{◌≡◌, ◌≢◌, ℕ, Bool, length, sym, ap, ◌∙◌}
use Rattle.std.proofs.lemmas.Bool.{eq-eqb, ne_eqb}
use Rattle.std.specs.Prelude.{if◌then◌else◌}
use Rattle.erm_machine.specs.declared.part.Part.{Part}
use Rattle.erm_machine.specs.declared.task.Task.{Task}
use Rattle.erm_machine.specs.declared.task.Task.TheVariants as task
use Rattle.erm_rule.specs.declared.view.View.{View}
use Rattle.erm_precommit.specs.declared.pre.Pre.{Pre}
use Rattle.erm_precommit.specs.Settle.{readers_task, task_of, Stands, WentOn}
use Rattle.erm_precommit.proofs.Standing.{part_is}

-- a settle has come from one view to another, at this task
pub record Passes (first : View) (who : ℕ) (pre : Pre) (v : View) (t : Task) : Type 0 where
  pub went : WentOn first who v
  pub stands : Stands pre v who
  pub task : task_of v who ≡ t

module _ (pre new : Pre) (v w : View) (who : ℕ) (stands : Stands pre v who) (went : WentOn v who w) (now : Stands new w who) where
  -- the versions kept are as many as before
  pub reads_same : length new.reads.value.items ≡ length pre.reads.value.items
  reads_same = now.kept.read_count ∙ ap (λ (z : Part). length z.current.reads) (part_is v who stands.sealed w went) ∙ sym stands.kept.read_count

  pub claims_same : length new.claims.value.items ≡ length pre.claims.value.items
  claims_same = now.kept.claim_count ∙ ap (λ (z : Part). length z.current.writes) (part_is v who stands.sealed w went) ∙ sym stands.kept.claim_count

-- readers are left, or none
pub some_left : (place bits : ℕ) → bits ≢ 0 → readers_task place bits ≡ task.ReadersLeft place bits
some_left place bits ne = ap (λ (b : Bool). if b then task.WriteClear place else task.ReadersLeft place bits) (ne_eqb bits 0 ne)

pub none_left : (place bits : ℕ) → bits ≡ 0 → readers_task place bits ≡ task.WriteClear place
none_left place bits e = ap (λ (b : Bool). if b then task.WriteClear place else task.ReadersLeft place bits) (eq-eqb bits 0 e)
